use Rattle.std.proofs.Common.{◌≡◌}
use Rattle.flight_phases.specs.State.{Stands}
use Rattle.flight_phases.proofs.state.PhaseState.stays.Goals as goal

pub returns-in-Some : goal.returns-in-Some
unfolding Stands
returns-in-Some c = λ stays f k stands same.
    let (j, is, last) = rw c.in-Some.is at stands in
    let here : j ≡ k = cc in
    c.stays.ensures stays f k (rw here at last) same
