use Rattle.std.proofs.Common.{◌≡◌, ℕ, ◌+◌, ◌-◌, ◌*◌, ◌/◌, ◌%◌, ◌^◌, ◌<◌, ◌≤◌, false}
use Rattle.wakes.specs.Turning.{waits_in}
use Rattle.wakes.proofs.rows.Rows.next_later.Given as goal

abbrev pub invariant-loop-start : goal.invariant-loop-start
invariant-loop-start l = record {
  group : l.group ≤ l.self.count / 2 ^ l.self.shift;
  behind : l.from ≤ l.start;
  begins : l.start % 64 ≡ 0;
  within : l.start ≤ (l.group + 1) * 2 ^ l.self.shift;
  none : (i : ℕ) → l.from / 64 * 64 + 64 ≤ i → i < l.start → waits_in l.self (l.moment % 64) i ≡ false;
}

abbrev pub decreases-loop-start : goal.decreases-loop-start
decreases-loop-start l = 64 - l.group
