use Rattle.std.proofs.Common.{suc, length, sym, ap, ◌∙◌, arith}
use Rattle.ecam_spec.specs.Past.{previous}
use Rattle.ecam_spec.specs.Term.{holds}
use Rattle.ecam_spec.specs.Situation.{world, condition_in, phase_in, starred_in}
use Rattle.book_model.specs.Sealed.{the_book}
use Rattle.book_model.proofs.BookLists.{many-alerts, many-memos}
use Rattle.fwc_lane.proofs.Showing.{starred-is}
use Rattle.fwc_lane.proofs.ZoneSteps.{right-stays, right-drawn}
use Rattle.fwc_lane.proofs.zones.draw_right.Goals as goal

pub returns-then-not-right_turned-clause-rows : goal.returns-then-not-right_turned-clause-rows
returns-then-not-right_turned-clause-rows c = λ m k scene turned was.
    let b = the_book c.args.book.now in
    right-stays b m k c.args.turned c.stars_turned.result turned (c.stars_turned.ensures.tells b (condition_in b m) (phase_in b m) k scene.truths)
    (sym c.right_turned.ensures ∙ c.if-not-right_turned.true) c.args.was _ was

pub fill_right-requires-clause-starred : goal.fill_right-requires-clause-starred
fill_right-requires-clause-starred c = ap length c.starred.ensures.value ∙ c.requires.fits.truths.stars.starred ∙ many-alerts c.args.book.now

pub fill_right-requires-clause-memos : goal.fill_right-requires-clause-memos
fill_right-requires-clause-memos c = c.requires.fits.memos ∙ many-memos c.args.book.now

pub returns-clause-rows : goal.returns-clause-rows
unfolding previous
returns-clause-rows c = λ m k scene turned was.
    let d = c.args.book.now in
    let b = the_book d in
    right-drawn b m k c.fill_right.result _ _
    (c.fill_right.ensures.rows (λ a. starred_in b m a k) (λ x. holds (world b m) x.when k)
    (λ a lt. c.starred.ensures.tells b (condition_in b m) (phase_in b m) (suc k) scene.truths a (omega (arith, many-alerts d)) ∙ starred-is b m a k)
    scene.memos)
