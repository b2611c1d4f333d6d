use Rattle.std.proofs.Common.{◌≡◌, ◌≤◌, ◌<◌, ◌-◌, true, filter, length}
use Rattle.ecam_spec.specs.Places.{below}
use Rattle.book_model.specs.Told.{flagged}
use Rattle.status_page.proofs.active.gather.Given as goal

abbrev pub invariant-loop-next : goal.invariant-loop-next
invariant-loop-next l = record {
  most : l.next ≤ length l.active;
  active : l.next < length l.active → flagged l.active l.next ≡ true;
  few : length l.places.items ≤ l.next;
  places : l.places.items ≡ filter (flagged l.active) (below l.next);
}

abbrev pub decreases-loop-next : goal.decreases-loop-next
decreases-loop-next l = length l.active - l.next
