use Rattle.std.proofs.Common.{◌≡◌, ◌≤◌, ◌<◌, ◌-◌, true, length}
use Rattle.std.specs.Prelude.{filter}
use Rattle.ecam_spec.specs.Places.{below}
use Rattle.book_model.specs.Sealed.{the_book}
use Rattle.book_model.specs.Told.{flagged}
use Rattle.status_page.proofs.Counting.{row_count}
use Rattle.status_page.proofs.count.has_status_rows_among.Given as goal

abbrev pub invariant-loop-next : goal.invariant-loop-next
invariant-loop-next l = record {
  most : l.next ≤ length l.active;
  active : l.next < length l.active → flagged l.active l.next ≡ true;
  none : row_count (the_book l.book) (flagged l.cancelled) (filter (flagged l.active) (below l.next)) ≡ 0;
}

abbrev pub decreases-loop-next : goal.decreases-loop-next
decreases-loop-next l = length l.alerts - l.next
