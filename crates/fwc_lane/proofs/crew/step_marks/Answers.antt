use Rattle.std.proofs.Common.{◌≡◌, suc, Bool, true, false, refl, length, get_or, sym, ap, ◌∙◌}
use Rattle.ecam_spec.specs.Situation.{condition_in, phase_in}
use Rattle.ecam_spec.specs.Screen.{cockpit}
use Rattle.book_model.specs.Sealed.{the_book}
use Rattle.fwc_lane.proofs.CrewMoments.{crew-of, sees-crew, still-crew, up-before, still-alert, up-stayed}
use Rattle.wakes.specs.Marks.{is_marked, room}
use Rattle.fwc_lane.proofs.crew.step_marks.Goals as goal

unless : (x y : Bool) → (x ≡ true → y ≡ true) → y ≡ false → x ≡ false
unless false y then off = refl
unless true y then off = absurd (let clash : true ≡ false = sym (then refl) ∙ off in cc)

pub returns-then-changed-clause-stands : goal.returns-then-changed-clause-stands
returns-then-changed-clause-stands c = λ m k truths strokes enters stands.
    let b = the_book c.args.book.now in
    let ups = c.up.ensures.tells b (condition_in b m) (phase_in b m) (suc k) truths in
    let waits = c.waiting.ensures.tells b (condition_in b m) (phase_in b m) (suc k) truths in
    let ups-long = ap length c.up.ensures.value ∙ c.requires.truths.stars.up in
    let waits-long = ap length c.waiting.ensures.value ∙ c.requires.truths.waiting in
    c.step_turned.ensures.stands (cockpit b m) k (crew-of b m) (sees-crew b m k c.args.keys.now strokes _ ups _ _ waits ups-long waits-long enters)
    (λ a lt off. still-alert b m k a (c.turned.ensures.tells b (condition_in b m) (phase_in b m) k truths a lt off)) stands

pub returns-then-changed-clause-up : goal.returns-then-changed-clause-up
returns-then-changed-clause-up c = λ m k truths a lt off.
    let b = the_book c.args.book.now in
    up-stayed b m k a (c.turned.ensures.tells b (condition_in b m) (phase_in b m) k truths a lt (unless _ _ (c.step_turned.ensures.looked a) off))

pub returns-clause-up : goal.returns-clause-up
returns-clause-up c = λ m k truths a lt off j e.
    let b = the_book c.args.book.now in
    up-before b m k ((c.changed.ensures.tells b (condition_in b m) (phase_in b m) k truths).0 c.if-changed.false) j e a lt

pub returns-clause-stands : goal.returns-clause-stands
returns-clause-stands c = λ m k truths strokes enters stands.
    let b = the_book c.args.book.now in
    let ups = c.up-2.ensures.tells b (condition_in b m) (phase_in b m) (suc k) truths in
    let waits = c.waiting-2.ensures.tells b (condition_in b m) (phase_in b m) (suc k) truths in
    let ups-long = ap length c.up-2.ensures.value ∙ c.requires.truths.stars.up in
    let waits-long = ap length c.waiting-2.ensures.value ∙ c.requires.truths.waiting in
    c.step_still.ensures.stands (cockpit b m) k (crew-of b m) (sees-crew b m k c.args.keys.now strokes _ ups _ _ waits ups-long waits-long enters)
    (still-crew b m k ((c.changed.ensures.tells b (condition_in b m) (phase_in b m) k truths).0 c.if-changed.false)) stands

pub step_turned-requires-clause-turned_room : goal.step_turned-requires-clause-turned_room
step_turned-requires-clause-turned_room c = ap room c.turned.ensures.value ∙ c.requires.truths.turned_room

pub step_turned-requires-clause-near_room : goal.step_turned-requires-clause-near_room
step_turned-requires-clause-near_room c = ap room c.near.ensures ∙ c.requires.truths.near_room

pub step_turned-requires-clause-up_near : goal.step_turned-requires-clause-up_near
step_turned-requires-clause-up_near c = λ a on. ap (λ xs. is_marked xs a) c.near.ensures ∙ c.requires.truths.near.up a (sym (ap (λ xs. get_or xs a false) c.up.ensures.value) ∙ on)

pub step_turned-requires-clause-waiting_near : goal.step_turned-requires-clause-waiting_near
step_turned-requires-clause-waiting_near c = λ a on. ap (λ xs. is_marked xs a) c.near.ensures ∙ c.requires.truths.near.waiting a (sym (ap (λ xs. get_or xs a false) c.waiting.ensures.value) ∙ on)

pub step_still-requires-clause-near_room : goal.step_still-requires-clause-near_room
step_still-requires-clause-near_room c = ap room c.near-2.ensures ∙ c.requires.truths.near_room

pub step_still-requires-clause-up_near : goal.step_still-requires-clause-up_near
step_still-requires-clause-up_near c = λ a on. ap (λ xs. is_marked xs a) c.near-2.ensures ∙ c.requires.truths.near.up a (sym (ap (λ xs. get_or xs a false) c.up-2.ensures.value) ∙ on)

pub step_still-requires-clause-waiting_near : goal.step_still-requires-clause-waiting_near
step_still-requires-clause-waiting_near c = λ a on. ap (λ xs. is_marked xs a) c.near-2.ensures ∙ c.requires.truths.near.waiting a (sym (ap (λ xs. get_or xs a false) c.waiting-2.ensures.value) ∙ on)
