use Rattle.std.proofs.Common.{◌≡◌, ◌≢◌, ℕ, ◌<◌, length, slice_index}
use Rattle.wakes.specs.Due.{never}
use Rattle.wakes.specs.Turning.{IsRows, WillLook, keys_of}
use Rattle.wakes.proofs.wheel.Wheel.settle_at.Given as goal

abbrev pub invariant-loop-item : goal.invariant-loop-item
invariant-loop-item l = record {
  keys : l.self.keys ≡ l.fn.self.keys;
  time : l.self.time ≡ l.now;
  count : l.self.rows.count ≡ length (keys_of l.fn.self);
  rows : IsRows l.self.rows;
  looks : (j : ℕ) → j < l.item → slice_index (keys_of l.fn.self) j ≢ never → WillLook l.self.rows l.now j (slice_index (keys_of l.fn.self) j);
}
