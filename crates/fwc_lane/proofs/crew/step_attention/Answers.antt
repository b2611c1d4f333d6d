use Rattle.std.proofs.Common.{suc, ◌+◌, ◌*◌, ◌/◌, length, sym, ap, ◌∙◌}
use Rattle.ecam_spec.specs.Situation.{condition_in, phase_in}
use Rattle.ecam_spec.specs.Screen.{attention}
use Rattle.book_model.specs.Sealed.{the_book}
use Rattle.book_model.proofs.BookLists.{many-alerts}
use Rattle.fwc_lane.proofs.CrewMoments.{attention-of, brings, still-lights}
use Rattle.fwc_lane.proofs.FlagSteps.{left-false, right-false}
use Rattle.wakes.specs.Marks.{is_marked}
use Rattle.fwc_lane.proofs.crew.step_attention.Goals as goal

pub returns-then-is_either-clause-stands : goal.returns-then-is_either-clause-stands
returns-then-is_either-clause-stands c = λ m k truths strokes marks kept others stands.
    let b = the_book c.args.book.now in
    let ups = c.up.ensures.tells b (condition_in b m) (phase_in b m) (suc k) truths in
    c.step_turned.ensures.stands (attention b m) k (attention-of b m) (brings b m k c.args.keys.now strokes _ ups _ marks _ c.shown.ensures)
    (λ i lt off. others i lt (sym (ap (λ xs. is_marked xs i) c.looked.ensures.value) ∙ off)) stands

pub returns-clause-stands : goal.returns-clause-stands
returns-clause-stands c = λ m k truths strokes marks kept others stands.
    let b = the_book c.args.book.now in
    let off = sym c.is_either.ensures ∙ c.if-is_either.false in
    let ups = c.up-2.ensures.tells b (condition_in b m) (phase_in b m) (suc k) truths in
    c.step_still.ensures.stands (attention b m) k (attention-of b m) (brings b m k c.args.keys.now strokes _ ups _ marks _ c.shown-2.ensures)
    (still-lights b m k ((c.changed.ensures.tells b (condition_in b m) (phase_in b m) k truths).0 (left-false _ _ off)) (kept (sym c.changed-2.ensures ∙ right-false _ _ off))) stands

pub step_turned-requires-clause-up : goal.step_turned-requires-clause-up
step_turned-requires-clause-up c = ap length c.up.ensures.value ∙ c.requires.truths.stars.up ∙ many-alerts c.args.book.now

pub step_turned-requires-clause-shown : goal.step_turned-requires-clause-shown
step_turned-requires-clause-shown c = ap length c.shown.ensures ∙ c.requires.marks.many.shown ∙ many-alerts c.args.book.now

pub step_turned-requires-clause-turned_room : goal.step_turned-requires-clause-turned_room
step_turned-requires-clause-turned_room c =
    c.looked.ensures.room (the_book c.args.book.now) c.requires.marks ∙ ap (λ n. 64 * (n / 64 + 1)) (many-alerts c.args.book.now)

pub step_still-requires-clause-up : goal.step_still-requires-clause-up
step_still-requires-clause-up c = ap length c.up-2.ensures.value ∙ c.requires.truths.stars.up ∙ many-alerts c.args.book.now

pub step_still-requires-clause-shown : goal.step_still-requires-clause-shown
step_still-requires-clause-shown c = ap length c.shown-2.ensures ∙ c.requires.marks.many.shown ∙ many-alerts c.args.book.now
