use Rattle.std.proofs.Common.{not, sym, ◌∙◌, ap, refl, IsTrue}
use Rattle.ecam_spec.specs.Past.{previous}
use Rattle.ecam_spec.specs.Phase.{airborne}
use Rattle.flight_phases.proofs.Trips.{trip-first}
use Rattle.flight_phases.proofs.Stretches.{parked-first, parked-is}
use Rattle.flight_phases.proofs.Climbing.{begins-lift_off}
use Rattle.flight_phases.proofs.regime.Regime.first.Goals as goal

pub returns-then-not-inputs : goal.returns-then-not-inputs
unfolding previous
returns-then-not-inputs c = λ f inputs.
    let air : IsTrue (airborne f 0) = ap not (sym inputs.gnd ∙ c.if-not-inputs.true) in
    (air, c.first.ensures f 0 (begins-lift_off f 0 air refl) inputs)

pub returns-then-inputs : goal.returns-then-inputs
returns-then-inputs c = λ f inputs.
    let on : IsTrue (f.gnd 0) = sym inputs.gnd ∙ c.if-not-inputs.false in
    let running : IsTrue (f.run 0) = sym inputs.run ∙ c.if-inputs.true in
    (on, running, inputs.fast ∙ sym (trip-first f on running))

pub returns-else-inputs : goal.returns-else-inputs
returns-else-inputs c = λ f inputs.
    let now = parked-is f 0 (sym inputs.gnd ∙ c.if-not-inputs.false) (sym inputs.run ∙ c.if-inputs.false) in
    rw c.just_parked.ensures (parked-first f now)
