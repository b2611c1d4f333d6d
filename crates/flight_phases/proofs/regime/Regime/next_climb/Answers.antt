use Rattle.std.proofs.Common.{suc}
use Rattle.ecam_spec.specs.Past.{previous}
use Rattle.flight_phases.proofs.Stretches.{airborne-ground}
use Rattle.flight_phases.proofs.Climbing.{begins-lift_off}
use Rattle.flight_phases.proofs.regime.Regime.next_climb.Goals as goal

pub returns-in-Parked : goal.returns-in-Parked
unfolding previous
returns-in-Parked c = λ f k stands air inputs.
    c.first.ensures f (suc k) (begins-lift_off f (suc k) air (airborne-ground f k c.args.self c.in-Parked.is stands)) inputs
