use Rattle.std.proofs.Common.{sym, subst}
use Rattle.book_model.specs.Sealed.{the_book}
use Rattle.book_model.proofs.BookLists.{many-alerts}
use Rattle.book_model.specs.Told.{TellsBelow}
use Rattle.warning_display.proofs.Marks.{fills-told}
use Rattle.warning_display.proofs.right.fill_right.Goals as goal

pub returns-clause-rows : goal.returns-clause-rows
returns-clause-rows c = λ is_starred holds stars told.
    let d = c.args.book.now in
    let each = subst (λ n. TellsBelow n c.args.starred.now is_starred) (sym (many-alerts d)) stars in
    fills-told (the_book d) c.args.starred.now is_starred holds c.fill_zone.result _ _ each (c.fill_zone.ensures.rows holds told)
