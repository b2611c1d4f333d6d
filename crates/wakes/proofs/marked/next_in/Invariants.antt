use Rattle.std.proofs.Common.{◌≡◌, ℕ, ◌*◌, ◌<◌, ◌≤◌, false}
use Rattle.wakes.specs.Marks.{is_marked}
use Rattle.wakes.proofs.marked.next_in.Given as goal

abbrev pub invariant-loop-i : goal.invariant-loop-i
invariant-loop-i l = (j : ℕ) → 64 * l.start ≤ j → j < 64 * l.i → is_marked l.words j ≡ false
