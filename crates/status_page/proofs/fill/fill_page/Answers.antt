use Rattle.std.proofs.Common.{[], drop}
use Rattle.zone_rows.specs.Tracked.{tracked}
use Rattle.book_model.specs.Sealed.{the_book}
use Rattle.book_model.specs.Told.{flagged}
use Rattle.status_page.specs.StatusOf.{rows_at}
use Rattle.status_page.proofs.Behind.{behind-start}
use Rattle.status_page.proofs.fill.fill_page.Goals as goal

pub returns-clause-rows : goal.returns-clause-rows
returns-clause-rows c =
    let start = tracked c.args.rows.now c.args.changed.now in
    let rows = rows_at (the_book c.args.book.now) c.args.places.now (flagged c.args.cancelled.now) in
    let put = c.put_all-last.ensures.rows c.args.first [] start (behind-start c.args.first start) in
    c.blank_rest.ensures.zone (drop c.args.first rows) start put.behind
