use Rattle.std.proofs.Common.{◌≡◌}
use Rattle.flight_phases.specs.State.{Stands}
use Rattle.flight_phases.proofs.state.PhaseState.next_regime.Goals as goal

pub returns-in-None : goal.returns-in-None
unfolding Stands
returns-in-None c = λ f k stands inputs.
    let first : k ≡ 0 = rw c.in-None.is at stands in
    rw first (c.first.ensures f (rw first at inputs))

pub returns-in-Some : goal.returns-in-Some
unfolding Stands
returns-in-Some c = λ f k stands inputs.
    let (j, later, before) = rw c.in-Some.is at stands in
    rw later (c.next.ensures f j before (rw later at inputs))
