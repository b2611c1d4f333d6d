use Rattle.std.proofs.Common.{refl}
use Rattle.flight_phases.specs.State.{Stands}
use Rattle.flight_phases.proofs.state.PhaseState.new.Goals as goal

pub returns : goal.returns
unfolding Stands
returns c = λ f. refl
