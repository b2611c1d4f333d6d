use Rattle.std.proofs.Common.{◌≡◌, filter}
use Rattle.ecam_spec.specs.Places.{below}
use Rattle.book_model.specs.Told.{flagged}
use Rattle.status_page.proofs.active.next_active.Given as goal

abbrev pub invariant-loop-i : goal.invariant-loop-i
invariant-loop-i l = filter (flagged l.active) (below l.i) ≡ filter (flagged l.active) (below l.from)
