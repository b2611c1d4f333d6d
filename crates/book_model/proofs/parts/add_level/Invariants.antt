use Rattle.std.proofs.Common.{◌≡◌, ◌++◌, filter}
use Rattle.ecam_spec.specs.Places.{below}
use Rattle.book_model.specs.Parts.{has_level}
use Rattle.book_model.proofs.parts.add_level.Given as goal

abbrev pub invariant-loop-i : goal.invariant-loop-i
invariant-loop-i l = l.order.items ≡ l.initial.order.items ++ filter (has_level l.alerts l.level) (below l.i)
