use Rattle.std.proofs.Common.{refl}
use Rattle.ecam_spec.specs.Past.{previous}
use Rattle.view_spec.specs.Callouts.{heights}
use Rattle.callouts.proofs.state.Callouts.clear.Goals as goal

pub returns-clause-stands : goal.returns-clause-stands
unfolding previous heights
returns-clause-stands c values = refl
