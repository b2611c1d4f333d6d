use Rattle.std.proofs.Common.{◌≡◌, ◌≤◌, ◌+◌, ◌-◌}
use Rattle.wakes.specs.Marks.{marked_below}
use Rattle.wakes.proofs.marked.count_in.Given as goal

abbrev pub invariant-loop-next : goal.invariant-loop-next
invariant-loop-next l = record {
  most : l.next ≤ l.end;
  few : l.from + l.count ≤ l.next;
  counted : marked_below l.words l.from + l.count ≡ marked_below l.words l.next;
}

abbrev pub decreases-loop-next : goal.decreases-loop-next
decreases-loop-next l = l.end - l.next
