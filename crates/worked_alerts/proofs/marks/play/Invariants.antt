use Rattle.std.proofs.Common.{◌≤◌, ◌+◌}
use Rattle.book_model.specs.Sealed.{the_book}
use Rattle.crew_marks.specs.MarksState.{MarksFit}
use Rattle.worked_alerts.proofs.marks.play.Given as goal

-- there was a moment each time
abbrev pub invariant-loop-time : goal.invariant-loop-time
invariant-loop-time l = record {
  fits : MarksFit (the_book l.book) l.marks;
  other : MarksFit (the_book l.book) l.other;
  moments : l.marks.moments ≤ l.initial.marks.moments + l._time;
}
