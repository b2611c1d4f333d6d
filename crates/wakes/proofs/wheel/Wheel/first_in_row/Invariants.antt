use Rattle.std.proofs.Common.{◌≡◌, ℕ, ◌-◌, ◌%◌, ◌<◌, ◌≤◌, true, length, slice_index}
use Rattle.wakes.specs.Turning.{keys_of, waits_in}
use Rattle.wakes.proofs.wheel.Wheel.first_in_row.Given as goal

abbrev pub invariant-loop-item : goal.invariant-loop-item
invariant-loop-item l = record {
  within : l.item ≤ length (keys_of l.self);
  later : (j : ℕ) → j < l.item → waits_in l.self.rows (l.now % 64) j ≡ true → l.now < slice_index (keys_of l.self) j;
}

abbrev pub decreases-loop-item : goal.decreases-loop-item
decreases-loop-item l = length (keys_of l.self) - l.item
