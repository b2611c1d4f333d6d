use Rattle.std.proofs.Common.{◌≤◌}
use Rattle.book_model.specs.Sealed.{the_book}
use Rattle.alert_truth.specs.TruthsState.{TruthsFit}
use Rattle.worked_alerts.proofs.truths.agree.Given as goal

-- there is a moment a row at most
abbrev pub invariant-loop-row : goal.invariant-loop-row
invariant-loop-row l = record {
  fits : TruthsFit (the_book l.book) l.truths;
  other : TruthsFit (the_book l.book) l.other;
  moments : l.truths.moments ≤ l.row;
}
