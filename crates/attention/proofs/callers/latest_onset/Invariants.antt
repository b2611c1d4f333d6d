use Rattle.std.proofs.Common.{◌≡◌, ◌≤◌, ◌<◌, ◌-◌, ◌+◌, ◌&&◌, nat_le, ℕ, true, length}
use Rattle.std.specs.List.{list_any}
use Rattle.ecam_spec.specs.Places.{below}
use Rattle.wakes.specs.Marks.{is_marked}
use Rattle.attention.specs.Watches.{rings_by}
use Rattle.attention.proofs.callers.latest_onset.Given as goal

abbrev pub invariant-loop-i : goal.invariant-loop-i
invariant-loop-i l = record {
  most : l.i ≤ length l.watches;
  here : l.i < length l.watches → is_marked l.chimes l.i ≡ true;
  rings : (j : ℕ) → nat_le j (l.latest + 4) ≡ list_any (λ i. is_marked l.chimes i && rings_by j l.watches i) (below l.i);
}

abbrev pub decreases-loop-i : goal.decreases-loop-i
decreases-loop-i l = length l.watches - l.i
