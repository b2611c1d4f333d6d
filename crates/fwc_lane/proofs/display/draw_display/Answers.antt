use Rattle.std.proofs.Common.{suc, sym, ◌∙◌}
use Rattle.ecam_spec.specs.Situation.{condition_in, phase_in}
use Rattle.ecam_spec.specs.Screen.{panel}
use Rattle.book_model.specs.Sealed.{the_book}
use Rattle.fwc_lane.proofs.PageRest.{page-stands}
use Rattle.fwc_lane.proofs.ZoneSteps.{display-stays}
use Rattle.fwc_lane.proofs.display.draw_display.Goals as goal

pub returns-then-not-display_turned-clause-rows : goal.returns-then-not-display_turned-clause-rows
returns-then-not-display_turned-clause-rows c = λ m k scene turned was.
    let b = the_book c.args.book.now in
    display-stays b m k c.args.turned c.choice-choice.result c.changed-chosen.result c.changed.result turned (c.changed.ensures.tells b (condition_in b m) (phase_in b m) k scene.truths)
    (c.changed-chosen.ensures (panel b m) (suc k) scene.selector) (c.choice-choice.ensures.choice (panel b m) (suc k) scene.selector) (sym c.display_turned.ensures ∙ c.if-not-display_turned.true) _ was

pub returns-clause-rows : goal.returns-clause-rows
returns-clause-rows c = λ m k scene turned was.
    let b = the_book c.args.book.now in
    c.fill_display.ensures.rows m k scene
    (λ on. page-stands b m k c.args.turned c.choice-choice.result c.changed-chosen.result turned (c.changed-chosen.ensures (panel b m) (suc k) scene.selector)
    (c.choice-choice.ensures.choice (panel b m) (suc k) scene.selector) (c.keeps_page-stays.ensures on) _ was)
