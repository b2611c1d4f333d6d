use Rattle.std.proofs.Common.{Bool, map, take}
use Rattle.ecam_spec.specs.Book as plain
use Rattle.book_model.specs.View.{line_of}
use Rattle.zone_rows.specs.Tracked.{tracked, IsWhole}
use Rattle.zone_rows.specs.Mended.{Appends}
use Rattle.book_model.specs.Told.{TellsOf}
use Rattle.warning_display.specs.LeftRows.{line_rows}
use Rattle.warning_display.proofs.procedure.put_lines.Given as goal

abbrev pub invariant-loop-i : goal.invariant-loop-i
invariant-loop-i l = record {
  whole : IsWhole (tracked l.rows l.changed);
  rows : (test : plain.Line → Bool) → TellsOf l.stands (map line_of l.lines) test
      → Appends 0 7 (line_rows test (take l.i (map line_of l.lines))) l.fn.count l.count (tracked l.fn.rows l.fn.changed) (tracked l.rows l.changed);
}
