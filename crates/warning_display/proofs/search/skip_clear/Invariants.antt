use Rattle.std.proofs.Common.{◌≡◌, ◌≤◌, ◌-◌, filter}
use Rattle.ecam_spec.specs.Places.{below}
use Rattle.book_model.specs.Told.{flagged}
use Rattle.warning_display.proofs.search.skip_clear.Given as goal

abbrev pub invariant-loop-next : goal.invariant-loop-next
invariant-loop-next l = record {
  from : l.from ≤ l.next;
  end : l.next ≤ l.end;
  none : filter (flagged l.flags) (below l.next) ≡ filter (flagged l.flags) (below l.from);
}

abbrev pub decreases-loop-next : goal.decreases-loop-next
decreases-loop-next l = l.end - l.next
