use Rattle.std.proofs.Common.{◌≤◌, ◌*◌}
use Rattle.book_model.specs.Sealed.{the_book}
use Rattle.crew_marks.specs.MarksState.{MarksFit}
use Rattle.worked_alerts.proofs.marks.each_row_holds.Given as goal

-- there are fewer than 256 moments a row
abbrev pub invariant-loop-row : goal.invariant-loop-row
invariant-loop-row g l = record {
  fits : MarksFit (the_book l.book) l.marks;
  other : MarksFit (the_book l.book) l.other;
  moments : l.marks.moments ≤ 256 * l.row;
}
