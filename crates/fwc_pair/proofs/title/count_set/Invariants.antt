use Rattle.std.proofs.Common.{◌≡◌, ◌≤◌, take, count_by}
use Rattle.fwc_pair.proofs.title.count_set.Given as goal

abbrev pub invariant-loop-i : goal.invariant-loop-i
invariant-loop-i l = record {
  count : l.count ≡ count_by (λ b. b) (take l.i l.flags);
  few : l.count ≤ l.i;
}
