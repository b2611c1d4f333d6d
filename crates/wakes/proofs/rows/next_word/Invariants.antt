use Rattle.std.proofs.Common.{◌≡◌, ℕ, ◌+◌, ◌-◌, ◌*◌, ◌/◌, ◌%◌, ◌<◌, ◌≤◌, slice_index}
use Rattle.wakes.proofs.rows.next_word.Given as goal

abbrev pub invariant-loop-next : goal.invariant-loop-next
invariant-loop-next l = record {
  from : l.start ≤ l.next;
  within : l.next ≤ l.end;
  begins : l.next % 64 ≡ 0;
  none : (i : ℕ) → l.start ≤ i → i < l.next → slice_index l.words (i / 64 * 64 + l.row) ≡ 0;
}

abbrev pub decreases-loop-next : goal.decreases-loop-next
decreases-loop-next l = l.end - l.next
