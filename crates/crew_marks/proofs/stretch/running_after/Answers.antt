use Rattle.std.proofs.Common.{true, false, Some, sym, ◌∙◌, ap}
use Rattle.std.specs.Option.{option_or}
use Rattle.ecam_spec.specs.Past.{running_since}
use Rattle.crew_marks.proofs.Stretches.{running-now}
use Rattle.crew_marks.proofs.stretch.running_after.Goals as goal

pub returns-then-holds : goal.returns-then-holds
returns-then-holds c = λ p k now holds was.
    c.or.ensures ∙ ap (λ o. option_or o (Some c.args.now)) was ∙ ap (λ n. option_or (running_since p k) (Some n)) now
    ∙ sym (running-now p k true (sym c.if-holds.true ∙ holds))

pub returns-else-holds : goal.returns-else-holds
returns-else-holds c = λ p k now holds was. sym (running-now p k false (sym c.if-holds.false ∙ holds))
