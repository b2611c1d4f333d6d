use Rattle.std.proofs.Common.{map, take}
use Rattle.ecam_spec.specs.Situation.{alert_at}
use Rattle.ecam_spec.specs.StatusPage.{section_rows}
use Rattle.book_model.specs.Sealed.{the_book}
use Rattle.zone_rows.specs.Tracked.{tracked, IsWhole}
use Rattle.status_page.specs.Behind.{AppendsBehind}
use Rattle.status_page.proofs.sections.put_section.Given as goal

abbrev pub invariant-loop-i : goal.invariant-loop-i
invariant-loop-i l = record {
  whole : IsWhole (tracked l.rows l.changed);
  rows : AppendsBehind (section_rows (map (alert_at (the_book l.book)) (take l.i l.places)) (l.section, l.colour)) l.fn.place l.place
      (tracked l.fn.rows l.fn.changed) (tracked l.rows l.changed);
}
