use Rattle.std.proofs.Common.{ℕ, ◌+◌, Bool, ◌∙◌, sym, ap, add-one}
use Rattle.ecam_spec.specs.declared.kinds.Key.TheVariants.{Page}
use Rattle.ecam_spec.specs.Places.{first_place}
use Rattle.ecam_kinds.specs.KeyState.{is_pressed}
use Rattle.system_display.proofs.Places.{none-before, none-more, none-below, first-here}
use Rattle.system_display.proofs.inputs.page_called.Goals as goal

pub returns-then-not-any_pressed-clause-pressed : goal.returns-then-not-any_pressed-clause-pressed
returns-then-not-any_pressed-clause-pressed c =
    sym (none-below _ c.args.pages (λ i. c.any_pressed.ensures.none c.if-not-any_pressed.true (Page (i + 1))))

pub loop-i-init : goal.loop-i-init
loop-i-init c = none-before _

pub returns-then-pressed-clause-pressed : goal.returns-then-pressed-clause-pressed
returns-then-pressed-clause-pressed c =
    let called : (ℕ → Bool) = λ i. is_pressed c.args.keys.now (Page (i + 1)) in
    sym (first-here called c.loop-i.i c.args.pages c.loop-i.invariant (sym c.pressed.ensures ∙ c.if-pressed.true) c.loop-i-test.true)

pub loop-i-preserved : goal.loop-i-preserved
loop-i-preserved c =
    let called : (ℕ → Bool) = λ i. is_pressed c.args.keys.now (Page (i + 1)) in
    ap (first_place called) (add-one c.loop-i.i) ∙ none-more called c.loop-i.i c.loop-i.invariant (sym c.pressed.ensures ∙ c.if-pressed.false)
