use Rattle.std.proofs.Common.{◌+◌, ◌≤◌, Bool, map, take}
use Rattle.ecam_spec.specs.Book as plain
use Rattle.book_model.specs.View.{memo_of}
use Rattle.zone_rows.specs.Tracked.{tracked, IsWhole}
use Rattle.book_model.specs.Told.{TellsOf}
use Rattle.warning_display.specs.Counted.{Adds}
use Rattle.warning_display.specs.Memos.{memo_rows}
use Rattle.warning_display.proofs.memos.put_memos.Given as goal

abbrev pub invariant-loop-i : goal.invariant-loop-i
invariant-loop-i l = record {
  whole : IsWhole (tracked l.rows l.changed);
  few : l.total ≤ l.fn.total + l.i;
  rows : (test : plain.Memo → Bool) → TellsOf l.holds (map memo_of l.memos) test
      → Adds l.first (memo_rows l.left test (take l.i (map memo_of l.memos))) l.fn.total l.total (tracked l.fn.rows l.fn.changed) (tracked l.rows l.changed);
}
