use Rattle.std.proofs.Common.{ℕ, ◌<◌, slice_index}
use Rattle.wakes.proofs.wheel.first_of_all.Given as goal

abbrev pub invariant-loop-item : goal.invariant-loop-item
invariant-loop-item l = (j : ℕ) → j < l.item → l.now < slice_index l.keys j
