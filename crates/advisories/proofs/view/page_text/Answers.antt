use Rattle.std.proofs.Common.{◌≡◌, List, map, get_or, sym, ◌∙◌, ap, arith}
use Rattle.std.proofs.lemmas.List.{length-map}
use Rattle.std.proofs.Math.ListN.{get_or-eq_default}
use Rattle.ecam_spec.specs.Book as plain
use Rattle.view_spec.specs.Advisories.{no_page}
use Rattle.book_model.specs.View.{page_of}
use Rattle.book_model.specs.Sealed.{the_book}
use Rattle.book_model.specs.declared.draft.Draft.{Draft}
use Rattle.book_model.specs.declared.draft.Page.{Page}
use Rattle.book_model.proofs.BookLists.{book-pages}
use Rattle.book_model.proofs.BookReads.{view-read}
use Rattle.advisories.proofs.view.page_text.Goals as goal

-- the book's pages are those that are read
are-read : (d : Draft) (pages : List Page) → pages ≡ d.pages.items → (the_book d).pages ≡ map page_of pages
are-read d pages same = book-pages d ∙ ap (map page_of) (sym same)

pub returns-then-place-pages : goal.returns-then-place-pages
returns-then-place-pages c =
    let pages = c.pages-pages.result.now in
    let x = c.index-pages-place.result in
    let here : get_or (the_book c.args.book.now).pages c.args.page no_page ≡ page_of x =
    ap (λ ps. get_or ps c.args.page no_page) (are-read c.args.book.now pages c.pages-pages.ensures.value)
    ∙ view-read page_of pages c.args.page x c.if-place-pages.true c.index-pages-place.is no_page in
    c.name_text.ensures ∙ c.as_bytes.ensures.value ∙ c.as_str.ensures.value ∙ sym (ap (λ (p : Page). p.name.bytes) c.index-pages-place.is) ∙ sym (ap (λ (p : plain.Page). p.name) here)

pub returns-else-place-pages : goal.returns-else-place-pages
returns-else-place-pages c =
    let pages = c.pages-pages.result.now in
    let none : get_or (the_book c.args.book.now).pages c.args.page no_page ≡ no_page =
    ap (λ ps. get_or ps c.args.page no_page) (are-read c.args.book.now pages c.pages-pages.ensures.value)
    ∙ get_or-eq_default (map page_of pages) no_page (omega (arith, c.if-place-pages.false, length-map pages page_of)) in
    c.new.ensures ∙ sym (ap (λ (p : plain.Page). p.name) none)
