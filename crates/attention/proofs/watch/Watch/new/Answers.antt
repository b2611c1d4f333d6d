use Rattle.std.proofs.Common.{refl}
use Rattle.ecam_spec.specs.Past.{previous}
use Rattle.attention.proofs.watch.Watch.new.Goals as goal

pub returns-clause-stands : goal.returns-clause-stands
unfolding previous
returns-clause-stands c = λ a i. refl
