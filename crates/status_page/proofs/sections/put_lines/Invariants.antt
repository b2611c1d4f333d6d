use Rattle.std.proofs.Common.{map, take}
use Rattle.book_model.specs.View.{status_of}
use Rattle.zone_rows.specs.Tracked.{tracked, IsWhole}
use Rattle.status_page.specs.Behind.{AppendsBehind}
use Rattle.status_page.proofs.SectionRows.{own_rows}
use Rattle.status_page.proofs.sections.put_lines.Given as goal

abbrev pub invariant-loop-i : goal.invariant-loop-i
invariant-loop-i l = record {
  whole : IsWhole (tracked l.rows l.changed);
  rows : AppendsBehind (own_rows (l.section, l.colour) (take l.i (map status_of l.lines))) l.fn.place l.place (tracked l.fn.rows l.fn.changed) (tracked l.rows l.changed);
}
