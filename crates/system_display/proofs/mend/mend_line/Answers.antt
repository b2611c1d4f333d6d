use Rattle.std.proofs.Common.{◌<◌, ◌∷◌, [], sym, subst}
use Rattle.book_model.specs.Sealed.{the_book}
use Rattle.book_model.specs.View.{row_of}
use Rattle.book_model.proofs.BookLists.{many-parameters}
use Rattle.zone_rows.specs.Tracked.{tracked}
use Rattle.zone_rows.specs.Mended.{Mends}
use Rattle.zone_rows.proofs.Mending.{mends_kept}
use Rattle.std.specs.Prelude.{IfSome}
use Rattle.system_display.proofs.Mended.{row-same}
use Rattle.system_display.proofs.mend.mend_line.Goals as goal

pub returns-else-shows_turned-clause-row : goal.returns-else-shows_turned-clause-row
returns-else-shows_turned-clause-row c = λ d was displays differ stand.
    let line = c.args.line.now in
    let same = row-same (the_book c.args.book.now) c.args.turned.now was d differ (row_of line) line.show
    (subst (λ n. IfSome line.show (λ p. p < n)) (sym (many-parameters c.args.book.now)) c.requires.line.show) (c.shows_turned.ensures c.if-shows_turned.false) in
    let t = tracked c.args.rows.now c.args.changed.now in
    subst (λ r. Mends c.args.place (r ∷ []) t t) same (mends_kept c.args.place _ t stand)
