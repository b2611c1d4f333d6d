use Rattle.std.proofs.Common.{◌≡◌, ◌≤◌, ◌<◌, ◌-◌, true, [], length, map, get_or}
use Rattle.std.specs.Prelude.{filter}
use Rattle.ecam_spec.specs.Places.{below}
use Rattle.book_model.specs.View.{bytes_of}
use Rattle.book_model.specs.Told.{flagged}
use Rattle.zone_rows.specs.Tracked.{tracked, IsWhole}
use Rattle.warning_display.specs.Counted.{Adds}
use Rattle.warning_display.specs.RightRows.{system_row}
use Rattle.warning_display.proofs.right.put_systems.Given as goal

abbrev pub invariant-loop-next : goal.invariant-loop-next
invariant-loop-next l = record {
  most : l.next ≤ length l.systems;
  set : l.next < length l.systems → flagged l.marks l.next ≡ true;
  whole : IsWhole (tracked l.rows l.changed);
  few : l.total ≤ l.next;
  rows : Adds 7 (map (λ s. system_row (get_or (map bytes_of l.systems) s [])) (filter (flagged l.marks) (below l.next)))
      0 l.total (tracked l.fn.rows l.fn.changed) (tracked l.rows l.changed);
}

abbrev pub decreases-loop-next : goal.decreases-loop-next
decreases-loop-next l = length l.systems - l.next
