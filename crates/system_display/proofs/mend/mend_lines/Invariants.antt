use Rattle.std.proofs.Common.{map, take}
use Rattle.ecam_spec.specs.SystemDisplay.{Display}
use Rattle.ecam_kinds.specs.Shown.{rows_of}
use Rattle.book_model.specs.Sealed.{the_book}
use Rattle.book_model.specs.View.{row_of}
use Rattle.zone_rows.specs.Tracked.{tracked, IsWhole}
use Rattle.zone_rows.specs.Mended.{Mends}
use Rattle.zone_rows.specs.Zones.{StandAt}
use Rattle.system_display.specs.Pages.{Displays, DifferBy, lines_of}
use Rattle.system_display.proofs.mend.mend_lines.Given as goal

abbrev pub invariant-loop-i : goal.invariant-loop-i
invariant-loop-i l = record {
  whole : IsWhole (tracked l.rows l.changed);
  rows : (d was : Display) → Displays (the_book l.book) l.values d → DifferBy (the_book l.book) l.turned was d
      → StandAt 16 (lines_of was (map row_of l.lines)) (rows_of l.initial.rows)
      → Mends 16 (lines_of d (map row_of (take l.i l.lines))) (tracked l.initial.rows l.initial.changed) (tracked l.rows l.changed);
}
