use Rattle.std.proofs.Common.{◌≡◌, filter}
use Rattle.ecam_spec.specs.Places.{below}
use Rattle.book_model.specs.Told.{flagged}
use Rattle.warning_display.proofs.search.next_set.Given as goal

abbrev pub invariant-loop-i : goal.invariant-loop-i
invariant-loop-i l = filter (flagged l.flags) (below l.i) ≡ filter (flagged l.flags) (below l.from)
