use Rattle.std.proofs.Common.{◌≡◌, ◌<◌, length, map, get_or, All, Some, None, slice_get, sym, ◌∙◌, ap, subst, arith}
use Rattle.std.specs.Option.{option_and_then}
use Rattle.std.proofs.lemmas.List.{length-map}
use Rattle.ecam_spec.specs.KeepsLimits.{IsSoundRow}
use Rattle.ecam_spec.specs.SystemDisplay.{page_rows}
use Rattle.book_model.specs.Sealed.{the_book}
use Rattle.book_model.specs.View.{page_of, row_of}
use Rattle.book_model.proofs.BookReads.{page-get}
use Rattle.book_model.proofs.BookLimits.{page-sound}
use Rattle.zone_rows.specs.Tracked.{tracked}
use Rattle.zone_rows.specs.Mended.{Mends}
use Rattle.zone_rows.specs.Zones.{StandAt}
use Rattle.system_display.specs.Pages.{lines_of}
use Rattle.system_display.proofs.Mended.{page-mended, none-shown}
use Rattle.system_display.proofs.mend.mend_zone.Goals as goal

pub mend_lines-requires-clause-few : goal.mend_lines-requires-clause-few
mend_lines-requires-clause-few c =
    let book = c.args.book.now in
    let pages = c.pages.result.now in
    let i = c.in-Some.page in
    let page = get_or pages i c.index-pages-page.result in
    let within : i < length book.pages.items = rw c.in-Some.is at c.requires.page in
    let sound = page-sound book c.pages.ensures.sealed pages i page c.pages.ensures.value (omega (arith, ap length c.pages.ensures.value)) (ap (get_or pages i) c.index-pages-page.is) in
    omega (arith, ap length c.deref.ensures.value, sound.row_count, length-map page.rows.items row_of)

pub mend_lines-requires-clause-lines : goal.mend_lines-requires-clause-lines
mend_lines-requires-clause-lines c =
    let book = c.args.book.now in
    let pages = c.pages.result.now in
    let i = c.in-Some.page in
    let page = get_or pages i c.index-pages-page.result in
    let within : i < length book.pages.items = rw c.in-Some.is at c.requires.page in
    let sound = page-sound book c.pages.ensures.sealed pages i page c.pages.ensures.value (omega (arith, ap length c.pages.ensures.value)) (ap (get_or pages i) c.index-pages-page.is) in
    subst (λ ls. All (IsSoundRow (length book.params.items)) (map row_of ls)) (sym c.deref.ensures.value) sound.rows

pub returns-in-None-clause-rows : goal.returns-in-None-clause-rows
returns-in-None-clause-rows c = λ d was displays differ stand.
    let pages = (the_book c.args.book.now).pages in
    let t = tracked c.args.rows.now c.args.changed.now in
    let none : option_and_then (slice_get pages) c.args.page ≡ None = ap (option_and_then (slice_get pages)) c.in-None.is in
    none-shown d was _ t none stand

pub returns-in-Some-clause-rows : goal.returns-in-Some-clause-rows
returns-in-Some-clause-rows c = λ d was displays differ stand.
    let book = c.args.book.now in
    let all = (the_book book).pages in
    let pages = c.pages.result.now in
    let i = c.in-Some.page in
    let page = get_or pages i c.index-pages-page.result in
    let within : i < length book.pages.items = rw c.in-Some.is at c.requires.page in
    let here = ap (get_or pages i) c.index-pages-page.is in
    let room : i < length pages = omega (arith, ap length c.pages.ensures.value) in
    let sound = page-sound book c.pages.ensures.sealed pages i page c.pages.ensures.value room here in
    let there : option_and_then (slice_get all) c.args.page ≡ Some (page_of page) =
    ap (option_and_then (slice_get all)) c.in-Some.is ∙ page-get book pages i page c.pages.ensures.value room here in
    let old = tracked c.args.rows.now c.args.changed.now in
    let new = tracked c.mend_lines.new.rows c.mend_lines.new.changed in
    subst (λ o. Mends 15 (page_rows d o) old new) (sym there)
    (page-mended was d (page_of page) sound.row_count old new c.requires.whole.rows (subst (λ o. StandAt 15 (page_rows was o) old.rows) there stand)
    (λ lines. subst (λ ls. Mends 16 (lines_of d (map row_of ls)) old new) c.deref.ensures.value
    (c.mend_lines.ensures.rows d was displays differ (subst (λ ls. StandAt 16 (lines_of was (map row_of ls)) old.rows) (sym c.deref.ensures.value) lines))))
