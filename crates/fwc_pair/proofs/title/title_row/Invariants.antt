use Rattle.std.proofs.Common.{◌≡◌, ◌<◌, Bool, false, length, get_or}
use Rattle.std.specs.List.{list_any}
use Rattle.ecam_spec.specs.Book as plain
use Rattle.ecam_spec.specs.BookTerms.{lines_of}
use Rattle.book_model.specs.Sealed.{the_book}
use Rattle.book_model.specs.Told.{TellsOf}
use Rattle.fwc_pair.proofs.Titles.{is_of, rows_below}
use Rattle.fwc_pair.proofs.title.title_row.Given as goal

abbrev pub invariant-loop-i : goal.invariant-loop-i
invariant-loop-i l = record {
  few : l.count < 7;
  count : (stands : plain.Line → Bool) → TellsOf l.lines (lines_of (the_book l.book).alerts) stands
      → l.count ≡ length (rows_below (the_book l.book) stands (λ a. get_or l.shown a false) l.order l.i);
  absent : (stands : plain.Line → Bool)
      → list_any (is_of l.alert) (rows_below (the_book l.book) stands (λ a. get_or l.shown a false) l.order l.i) ≡ false;
}
