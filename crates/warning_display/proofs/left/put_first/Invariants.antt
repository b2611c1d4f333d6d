use Rattle.std.proofs.Common.{◌≡◌, ◌≤◌, ◌<◌, ◌-◌, Bool, true, take, get_or, length}
use Rattle.std.specs.Prelude.{filter}
use Rattle.ecam_spec.specs.Book as plain
use Rattle.ecam_spec.specs.BookTerms.{lines_of}
use Rattle.ecam_spec.specs.LeftZone.{overflow}
use Rattle.book_model.specs.Sealed.{the_book}
use Rattle.zone_rows.specs.Tracked.{tracked, IsWhole}
use Rattle.zone_rows.specs.Mended.{Appends}
use Rattle.book_model.specs.Told.{TellsOf, flagged}
use Rattle.warning_display.specs.LeftRows.{rows_in, blocks}
use Rattle.warning_display.proofs.left.put_first.Given as goal

abbrev pub invariant-loop-next : goal.invariant-loop-next
invariant-loop-next l = record {
  most : l.next ≤ length l.order;
  whole : IsWhole (tracked l.rows l.changed);
  next : l.next < length l.order → flagged l.shown (get_or l.order l.next 0) ≡ true;
  rows : (stands : plain.Line → Bool) → TellsOf l.lines (lines_of (the_book l.book).alerts) stands
      → Appends 0 7 (rows_in (blocks (the_book l.book) stands (filter (flagged l.shown) (take l.next l.order)))) 0 l.count
      (tracked l.fn.rows l.fn.changed) (tracked l.rows l.changed);
  titles : (stands : plain.Line → Bool) → TellsOf l.lines (lines_of (the_book l.book).alerts) stands
      → overflow (blocks (the_book l.book) stands (filter (flagged l.shown) (take l.next l.order))) ≡ 0;
}

abbrev pub decreases-loop-next : goal.decreases-loop-next
decreases-loop-next l = length l.order - l.next
