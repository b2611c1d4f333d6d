use Rattle.std.proofs.Common.{◌≡◌, ℕ, ◌<◌, List, [], length, Option, Some, None, slice_get, ◌∙◌, ap, sym, subst, arith}
use Rattle.std.specs.Option.{option_and_then}
use Rattle.ecam_spec.specs.Book as plain
use Rattle.ecam_spec.specs.Picture as spec
use Rattle.ecam_spec.specs.SystemDisplay.{Display, page_rows}
use Rattle.book_model.specs.Sealed.{the_book}
use Rattle.book_model.specs.View.{page_of}
use Rattle.zone_rows.specs.Tracked.{tracked, TrackedRows}
use Rattle.zone_rows.specs.Mended.{Mends}
use Rattle.zone_rows.proofs.Filling.{fill-none}
use Rattle.system_display.specs.Pages.{rows_on}
use Rattle.book_model.proofs.BookReads.{page-get}
use Rattle.book_model.proofs.BookLimits.{page-sound}
use Rattle.system_display.proofs.PageRows.{page-zone}
use Rattle.system_display.proofs.page.fill_zone.Goals as goal

-- the rows of a page and blank ones are those of the page that is called
called : (d : Display) (pages : List plain.Page) (page : Option ℕ) (o : Option plain.Page) (old new : TrackedRows)
    → option_and_then (slice_get pages) page ≡ o → Mends 15 (spec.zone 18 (rows_on d o)) old new → Mends 15 (page_rows d (option_and_then (slice_get pages) page)) old new
called d pages page o old new e mended =
    let Zone : List spec.Row → Type 0 = λ rs. Mends 15 rs old new in
    subst Zone (page-zone d o ∙ ap (page_rows d) (sym e)) mended

pub returns-in-None : goal.returns-in-None
returns-in-None c = record {
  whole = c.blank_rest.ensures.whole;
  rows = λ d displays.
      let pages = (the_book c.args.book.now).pages in
      let old = tracked c.args.rows.now c.args.changed.now in
      called d pages c.args.page None old _ (ap (option_and_then (slice_get pages)) c.in-None.is) (c.blank_rest.ensures.zone [] old (fill-none 15 18 old));
}

pub put_page-count-requires : goal.put_page-count-requires
put_page-count-requires c =
    let book = c.args.book.now in
    let within : c.in-Some.page < length book.pages.items = rw c.in-Some.is at c.requires.page in
    record {
      whole = c.requires.whole;
      page = page-sound book c.pages.ensures.sealed c.pages.result.now c.in-Some.page c.index-pages-page.result c.pages.ensures.value (omega (arith, ap length c.pages.ensures.value)) c.index-pages-page.is;
      values = c.requires.values;
      short = c.requires.short;
    }

pub returns-in-Some : goal.returns-in-Some
returns-in-Some c = record {
  whole = c.blank_rest-in-Some.ensures.whole;
  rows = λ d displays.
      let book = c.args.book.now in
      let pages = (the_book book).pages in
      let old = tracked c.args.rows.now c.args.changed.now in
      let page = c.index-pages-page.result in
      let within : c.in-Some.page < length book.pages.items = rw c.in-Some.is at c.requires.page in
      let there = page-get book c.pages.result.now c.in-Some.page page c.pages.ensures.value (omega (arith, ap length c.pages.ensures.value)) c.index-pages-page.is in
      called d pages c.args.page (Some (page_of page)) old _ (ap (option_and_then (slice_get pages)) c.in-Some.is ∙ there)
      (c.blank_rest-in-Some.ensures.zone (rows_on d (Some (page_of page))) old (c.put_page-count.ensures.put d displays));
}
