use Rattle.std.proofs.Common.{◌≡◌, suc, refl, arith}
use Rattle.flight_phases.specs.State.{Stands}
use Rattle.flight_phases.proofs.state.PhaseState.rest.Goals as goal

pub returns-in-Some : goal.returns-in-Some
unfolding Stands
returns-in-Some c = λ f k same stands.
    let (j, is, last) = rw c.in-Some.is at stands in
    let here : j ≡ k = cc in
    (suc k, refl, c.rested.ensures f k same (rw here at last))

pub returns-in_default : goal.returns-in_default
unfolding Stands
returns-in_default c = λ f k same stands.
    let none : suc k ≡ 0 = rw c.in_default.is at stands in
    absurd (let w : ⊥ = omega arith in w)
