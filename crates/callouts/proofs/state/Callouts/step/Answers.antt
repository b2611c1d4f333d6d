use Rattle.std.proofs.Common.{◌∙◌}
use Rattle.ecam_spec.specs.Past.{previous}
use Rattle.view_spec.specs.Callouts.{armed}
use Rattle.callouts.proofs.Steps.{call-by, stands-on}
use Rattle.callouts.proofs.state.Callouts.step.Goals as goal

pub returns-clause-call : goal.returns-clause-call
returns-clause-call c values k stands is =
    c.least_crossed-call.ensures (λ h. previous (armed values h) k) stands ∙ call-by values k c.args.value is

pub returns-clause-stands : goal.returns-clause-stands
returns-clause-stands c values k stands is =
    stands-on values k c.args.value is c.rearm.new.self (c.rearm.ensures.armed (λ h. previous (armed values h) k) stands)
