use Rattle.std.proofs.Common.{◌≤◌}
use Rattle.book_model.specs.Sealed.{the_book}
use Rattle.attention.specs.State.{AttentionFits}
use Rattle.worked_alerts.proofs.lights.each_row_holds.Given as goal

-- there is a moment a row at most
abbrev pub invariant-loop-row : goal.invariant-loop-row
invariant-loop-row g l = record {
  fits : AttentionFits (the_book l.book) l.attention;
  other : AttentionFits (the_book l.book) l.other;
  moments : l.attention.moments ≤ l.row;
}
