use Rattle.std.proofs.Common.{◌≡◌, suc, refl}
use Rattle.flight_phases.specs.State.{Stands}
use Rattle.flight_phases.proofs.state.PhaseState.is_steady.Goals as goal

pub returns-in-Some-clause-phase : goal.returns-in-Some-clause-phase
unfolding Stands
returns-in-Some-clause-phase c = λ steady f k stands same.
    let (j, is, last) = rw c.in-Some.is at stands in
    let here : j ≡ k = cc in
    c.is_steady.ensures.phase steady f k (rw here at last) same

pub returns-in-Some-clause-stands : goal.returns-in-Some-clause-stands
unfolding Stands
returns-in-Some-clause-stands c = λ steady f k same stands.
    let (j, is, last) = rw c.in-Some.is at stands in
    let here : j ≡ k = cc in
    rw c.in-Some.is (suc k, refl, c.is_steady.ensures.stands steady f k same (rw here at last))
