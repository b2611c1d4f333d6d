use Rattle.std.proofs.Common.{false, replicate, refl}
use Rattle.ecam_spec.specs.Past.{previous}
use Rattle.view_spec.specs.Callouts.{heights}
use Rattle.callouts.proofs.Eras.{stand-new}
use Rattle.callouts.proofs.state.Callouts.new.Goals as goal

pub returns-clause-stands : goal.returns-clause-stands
unfolding previous heights
returns-clause-stands c values = refl

pub returns-clause-begins : goal.returns-clause-begins
unfolding previous heights
returns-clause-begins c b =
    stand-new b (record { param = c.args.param; armed = replicate 12 false; ticks = 0 }) refl (λ values. refl)
