use Rattle.std.proofs.Common.{◌≡◌, ℕ, ◌+◌, ◌-◌, ◌*◌, ◌/◌, ◌%◌, ◌^◌, ◌<◌, ◌≤◌, false}
use Rattle.wakes.specs.Turning.{IsRows, is_busy, waits_in}
use Rattle.wakes.proofs.rows.Rows.first_later.Given as goal

abbrev pub invariant-loop-start : goal.invariant-loop-start
invariant-loop-start l = record {
  rows : IsRows l.self;
  count : l.self.count ≡ l.fn.self.count;
  waits : (r i : ℕ) → waits_in l.self r i ≡ waits_in l.fn.self r i;
  group : l.group ≤ l.self.count / 2 ^ l.self.shift;
  begins : l.start % 64 ≡ 0;
  within : l.start ≤ (l.group + 1) * 2 ^ l.self.shift;
  none : (i : ℕ) → i < l.start → waits_in l.self (l.moment % 64) i ≡ false;
  quiet : (g : ℕ) → g < l.group → is_busy l.self.busy (l.moment % 64) g ≡ false;
}

abbrev pub decreases-loop-start : goal.decreases-loop-start
decreases-loop-start l = 64 - l.group
