use Rattle.std.proofs.Common.{true, false, Some, cond, sym, ◌∙◌, ap}
use Rattle.ecam_spec.specs.Past.{last_since, previously}
use Rattle.crew_marks.proofs.Stretches.{last-now}
use Rattle.crew_marks.proofs.stretch.press_after.Goals as goal

pub returns-then-not-quiet-clause-press : goal.returns-then-not-quiet-clause-press
returns-then-not-quiet-clause-press c = λ p q k now pressed quiet was. sym (last-now p q k false (sym c.if-not-quiet.true ∙ quiet))

pub returns-then-pressed-clause-press : goal.returns-then-pressed-clause-press
returns-then-pressed-clause-press c = λ p q k now pressed quiet was.
    ap Some now ∙ sym (last-now p q k true (sym c.if-not-quiet.false ∙ quiet) ∙ ap (λ b. cond b (Some k) (previously (last_since p q) k)) (sym pressed ∙ c.if-pressed.true))

pub returns-else-pressed-clause-press : goal.returns-else-pressed-clause-press
returns-else-pressed-clause-press c = λ p q k now pressed quiet was.
    was ∙ sym (last-now p q k true (sym c.if-not-quiet.false ∙ quiet) ∙ ap (λ b. cond b (Some k) (previously (last_since p q) k)) (sym pressed ∙ c.if-pressed.false))
