use Rattle.std.proofs.Common.{◌≡◌, ◌≤◌, ◌<◌, ◌-◌, ◌*◌, true, map, length}
use Rattle.std.specs.Prelude.{filter}
use Rattle.ecam_spec.specs.Places.{below}
use Rattle.ecam_spec.specs.Situation.{alert_at}
use Rattle.book_model.specs.Sealed.{the_book}
use Rattle.book_model.specs.Told.{flagged}
use Rattle.status_page.proofs.SectionRows.{section_count}
use Rattle.status_page.proofs.count.count_rows.Given as goal

abbrev pub invariant-loop-next : goal.invariant-loop-next
invariant-loop-next l = record {
  most : l.next ≤ length l.active;
  active : l.next < length l.active → flagged l.active l.next ≡ true;
  few_lines : l.lines ≤ 8 * l.next;
  few_titles : l.titles ≤ l.next;
  lines : l.lines ≡ section_count (map (alert_at (the_book l.book)) (filter (flagged l.active) (below l.next)));
  titles : l.titles ≡ length (filter (flagged l.cancelled) (filter (flagged l.active) (below l.next)));
}

abbrev pub decreases-loop-next : goal.decreases-loop-next
decreases-loop-next l = length l.alerts - l.next
