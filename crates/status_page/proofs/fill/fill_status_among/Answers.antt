use Rattle.book_model.specs.Sealed.{the_book}
use Rattle.status_page.specs.StatusOf.{status_of}
use Rattle.status_page.proofs.Pages.{no-rows, normal-page}
use Rattle.status_page.proofs.fill.fill_status_among.Goals as goal

pub returns-then-is_surely_bare-clause-rows : goal.returns-then-is_surely_bare-clause-rows
returns-then-is_surely_bare-clause-rows c = λ active cancelled tells told.
    let none = no-rows (status_of (the_book c.args.book.now) active cancelled) (c.is_surely_bare.ensures c.if-is_surely_bare.true active cancelled tells told) in
    rw (none, normal-page c.args.page) c.fill_normal.ensures.rows
