use Rattle.std.proofs.Common.{length, ap, ◌∙◌, sym, arith}
use Rattle.std.specs.List.{position_from}
use Rattle.std.specs.Prelude.{map}
use Rattle.ecam_spec.specs.Bytes.{same_text}
use Rattle.ecam_spec.specs.Book.{Page}
use Rattle.book_model.specs.View.{page_of}
use Rattle.book_model.proofs.BookLists.{book-pages}
use Rattle.book_model.proofs.BookLimits.{sizes}
use Rattle.view_spec.specs.Places.{page_place}
use Rattle.book_places.proofs.places.page_place.Goals as goal

pub first_page-requires : goal.first_page-requires
first_page-requires c = omega (arith, (sizes c.args.book.now c.pages.ensures.sealed).pages, ap length c.pages.ensures.value)

pub returns : goal.returns
unfolding page_place
returns c =
    let test = λ (p : Page). same_text c.args.name.now p.name in
    c.first_page.ensures ∙ ap (λ ps. position_from test 0 (map page_of ps)) c.pages.ensures.value ∙ ap (position_from test 0) (sym (book-pages c.args.book.now))
