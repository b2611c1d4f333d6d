use Rattle.std.proofs.Common.{map, take}
use Rattle.ecam_spec.specs.SystemDisplay.{Display}
use Rattle.book_model.specs.Sealed.{the_book}
use Rattle.book_model.specs.View.{row_of}
use Rattle.zone_rows.specs.Tracked.{tracked, IsWhole}
use Rattle.zone_rows.specs.Mended.{Appends}
use Rattle.system_display.specs.Pages.{Displays, lines_of}
use Rattle.system_display.proofs.page.put_lines.Given as goal

abbrev pub invariant-loop-line : goal.invariant-loop-line
invariant-loop-line l = record {
  whole : IsWhole (tracked l.rows l.changed);
  put : (d : Display) → Displays (the_book l.book) l.values d
      → Appends 15 18 (lines_of d (map row_of (take l.line-index l.lines))) l.before l.count (tracked l.initial.rows l.initial.changed) (tracked l.rows l.changed);
}
