use Rattle.std.proofs.Common.{◌≡◌, map, sym, ap, subst, ◌∙◌, arith}
use Rattle.ecam_spec.specs.Book as plain
use Rattle.ecam_spec.specs.Term.{in_set}
use Rattle.std.specs.Option.{option_and_then}
use Rattle.std.specs.Prelude.{find, slice_get}
use Rattle.book_model.specs.View.{page_of}
use Rattle.book_model.specs.Sealed.{the_book}
use Rattle.book_model.proofs.BookLists.{book-pages, many-pages}
use Rattle.fwc_lane.proofs.PageChoice.{called-own, called-phase}
use Rattle.fwc_lane.proofs.display.called_page.Goals as goal

pub returns-in-Some-clause-page : goal.returns-in-Some-clause-page
returns-in-Some-clause-page c = λ d pages phase page.
    called-own d (the_book c.args.book.now).pages pages c.in-Some.page (page ∙ sym c.page_of_alert.ensures.page ∙ c.in-Some.is) (omega (arith, many-pages c.args.book.now, c.in-Some.ensures.within))

pub returns-in-None-clause-page : goal.returns-in-None-clause-page
returns-in-None-clause-page c = λ d pages phase page.
    let all : map page_of c.pages.result.now ≡ (the_book c.args.book.now).pages = ap (map page_of) c.pages.ensures.value ∙ sym (book-pages c.args.book.now) in
    called-phase d (the_book c.args.book.now).pages pages c.args.phase.number c.page_of_phase.result phase (page ∙ sym c.page_of_alert.ensures.page ∙ c.in-None.is)
    (subst (λ ps. option_and_then (slice_get ps) c.page_of_phase.result ≡ find (λ (p : plain.Page). in_set p.phases c.args.phase.number) ps) all c.page_of_phase.ensures.page)
