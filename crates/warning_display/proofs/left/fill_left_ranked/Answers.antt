use Rattle.warning_display.proofs.Places.{order-told}
use Rattle.warning_display.proofs.left.fill_left_ranked.Goals as goal

pub returns-clause-rows : goal.returns-clause-rows
returns-clause-rows c = λ is_shown stands holds shows tells told.
    rw (order-told c.args.book.now c.args.shown.now is_shown shows) at c.fill_zone.ensures.rows stands holds tells told
