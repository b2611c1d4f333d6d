use Rattle.std.proofs.Common.{refl}
use Rattle.flight_phases.specs.State.{Stands}
use Rattle.flight_phases.proofs.state.PhaseState.step.Goals as goal

pub returns-clause-stands : goal.returns-clause-stands
unfolding Stands
returns-clause-stands c = λ f k stands inputs. (k, refl, c.next_regime-regime.ensures f k stands inputs)
