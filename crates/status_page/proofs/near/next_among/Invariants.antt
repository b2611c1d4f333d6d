use Rattle.std.proofs.Common.{◌≡◌, ◌≤◌, ◌-◌, filter, length}
use Rattle.ecam_spec.specs.Places.{below}
use Rattle.book_model.specs.Told.{flagged}
use Rattle.status_page.proofs.near.next_among.Given as goal

abbrev pub invariant-loop-next : goal.invariant-loop-next
invariant-loop-next l = record {
  from : l.from ≤ l.next;
  most : l.next ≤ length l.active;
  none : filter (flagged l.active) (below l.next) ≡ filter (flagged l.active) (below l.from);
}

abbrev pub decreases-loop-next : goal.decreases-loop-next
decreases-loop-next l = length l.active - l.next
