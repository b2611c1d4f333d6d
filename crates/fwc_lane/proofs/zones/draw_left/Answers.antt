use Rattle.std.proofs.Common.{suc, false, length, get_or, sym, ap, ◌∙◌, arith}
use Rattle.ecam_spec.specs.Past.{previous}
use Rattle.ecam_spec.specs.Term.{holds}
use Rattle.ecam_spec.specs.Situation.{world}
use Rattle.ecam_spec.specs.Screen.{cockpit, order, line_stands, is_shown_in}
use Rattle.book_model.specs.Sealed.{the_book}
use Rattle.book_model.proofs.BookLists.{many-alerts, many-memos}
use Rattle.fwc_lane.proofs.CrewMoments.{shown-told}
use Rattle.fwc_lane.proofs.ZoneSteps.{left-stays, left-drawn}
use Rattle.fwc_lane.proofs.zones.draw_left.Goals as goal

pub returns-then-not-left_turned-clause-rows : goal.returns-then-not-left_turned-clause-rows
returns-then-not-left_turned-clause-rows c = λ m k scene turned was.
    left-stays (the_book c.args.book.now) m k c.args.turned turned (sym c.left_turned.ensures ∙ c.if-not-left_turned.true) c.args.was _ was

pub fill_left_ranked-requires-clause-shown : goal.fill_left_ranked-requires-clause-shown
fill_left_ranked-requires-clause-shown c = ap length c.shown.ensures ∙ c.requires.fits.marks.many.shown ∙ many-alerts c.args.book.now

pub fill_left_ranked-requires-clause-ranked : goal.fill_left_ranked-requires-clause-ranked
fill_left_ranked-requires-clause-ranked c = λ r lt.
    let b = the_book c.args.book.now in
    c.ranked.ensures b c.requires.fits.marks r lt ∙ ap (λ xs. get_or xs (get_or (order b) r 0) false) (sym c.shown.ensures)

pub fill_left_ranked-requires-clause-memos : goal.fill_left_ranked-requires-clause-memos
fill_left_ranked-requires-clause-memos c = c.requires.fits.memos ∙ many-memos c.args.book.now

pub returns-clause-rows : goal.returns-clause-rows
unfolding previous
returns-clause-rows c = λ m k scene turned was.
    let d = c.args.book.now in
    let b = the_book d in
    left-drawn b m k c.normal.result c.fill_left_ranked.result _ _ (c.normal.ensures.answer b (cockpit b m) (suc k) scene.marks)
    (c.fill_left_ranked.ensures.rows (λ a. is_shown_in b m a k) (line_stands b m k) (λ x. holds (world b m) x.when k)
    (λ a lt. ap (λ xs. get_or xs a false) c.shown.ensures ∙ shown-told b m k _ scene.marks a (omega (arith, many-alerts d)))
    scene.lines scene.memos)
