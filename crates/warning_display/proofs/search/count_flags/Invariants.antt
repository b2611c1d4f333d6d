use Rattle.std.proofs.Common.{◌≡◌, ◌≤◌, ◌+◌, take, filter, length}
use Rattle.book_model.specs.Told.{flagged}
use Rattle.warning_display.proofs.search.count_flags.Given as goal

abbrev pub invariant-loop-i : goal.invariant-loop-i
invariant-loop-i l = record {
  few : l.count ≤ l.i;
  counted : length (filter (flagged l.shown) (take l.i l.order)) ≡ length (filter (flagged l.shown) (take l.from l.order)) + l.count;
}
