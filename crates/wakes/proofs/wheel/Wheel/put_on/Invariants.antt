use Rattle.std.proofs.Common.{◌≡◌, ℕ, ◌-◌, ◌%◌, ◌<◌, ◌≤◌, false, length}
use Rattle.wakes.specs.Turning.{AllLook, keys_of, waits_in}
use Rattle.wakes.proofs.wheel.Wheel.put_on.Given as goal

abbrev pub invariant-loop-item : goal.invariant-loop-item
invariant-loop-item l = record {
  keys : l.self.keys ≡ l.fn.self.keys;
  time : l.self.time ≡ l.fn.self.time;
  looks : AllLook (keys_of l.fn.self) l.self.rows l.now;
  within : l.item ≤ length (keys_of l.fn.self);
  before : (j : ℕ) → j < l.item → waits_in l.self.rows (l.now % 64) j ≡ false;
}

abbrev pub decreases-loop-item : goal.decreases-loop-item
decreases-loop-item l = length (keys_of l.fn.self) - l.item
