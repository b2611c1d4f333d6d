use Rattle.std.proofs.Common.{◌≡◌, length, drop, sym, ap, ◌∙◌, arith}
use Rattle.ecam_spec.specs.Picture.{zone}
use Rattle.book_model.specs.Sealed.{the_book}
use Rattle.book_model.specs.Told.{flagged}
use Rattle.book_model.proofs.BookLists.{many-alerts}
use Rattle.status_page.specs.StatusOf.{rows_at, status_of}
use Rattle.status_page.proofs.AtPlaces.{rows-told}
use Rattle.status_page.proofs.Pages.{no-rows, page-is, normal-page}
use Rattle.status_page.proofs.fill.fill_known.Goals as goal

pub returns-then-many-eq0-clause-rows : goal.returns-then-many-eq0-clause-rows
returns-then-many-eq0-clause-rows c = λ active cancelled tells told.
    let none = no-rows (status_of (the_book c.args.book.now) active cancelled) (sym (c.count_rows-many.ensures.rows active cancelled tells told) ∙ c.if-many-eq0.true) in
    rw (none, normal-page c.args.page) c.fill_normal.ensures.rows

pub returns-clause-rows : goal.returns-clause-rows
returns-clause-rows c = λ active cancelled tells told.
    let d = c.args.book.now in
    let rows = status_of (the_book d) active cancelled in
    let same : rows_at (the_book d) c.as_slice.result.now (flagged c.args.cancelled.now) ≡ rows
    = rows-told (the_book d) (length d.alerts.items) (sym (many-alerts d)) c.as_slice.result.now c.args.active.now c.args.cancelled.now active cancelled
    (c.as_slice.ensures.value ∙ c.gather.ensures.places) tells told in
    let page = page-is c.args.page c.count_rows-many.result rows (c.count_rows-many.ensures.rows active cancelled tells told) (omega (arith, c.if-many-eq0.false)) in
    let first = ap (λ n. zone 18 (drop n rows)) c.first_row-first.ensures in
    rw (page, ← first) (rw same at c.fill_page.ensures.rows)
