use Rattle.std.proofs.Common.{◌≡◌, true, false, sym, ◌∙◌, refl}
use Rattle.ecam_spec.specs.Phase.{trip, ground_phase}
use Rattle.flight_phases.proofs.regime.running_number.Goals as goal

pub returns-in-true-true-clause-answer : goal.returns-in-true-true-clause-answer
unfolding ground_phase
returns-in-true-true-clause-answer c = λ f k tripped inputs.
    let power : f.tp k ≡ true = sym inputs.tp ∙ c.in-true-true.is-0 in
    let fast : f.fast k ≡ true = sym inputs.fast ∙ c.in-true-true.is-1 in
    rw (power, fast) refl

pub returns-in-true-false-clause-answer : goal.returns-in-true-false-clause-answer
unfolding ground_phase
returns-in-true-false-clause-answer c = λ f k tripped inputs.
    let power : f.tp k ≡ true = sym inputs.tp ∙ c.in-true-false.is-0 in
    let fast : f.fast k ≡ false = sym inputs.fast ∙ c.in-true-false.is-1 in
    rw (power, fast) refl

pub returns-in-false-true-clause-answer : goal.returns-in-false-true-clause-answer
unfolding ground_phase
returns-in-false-true-clause-answer c = λ f k tripped inputs.
    let power : f.tp k ≡ false = sym inputs.tp ∙ c.in-false-true.is-0 in
    let fast : f.fast k ≡ true = sym inputs.fast ∙ c.in-false-true.is-1 in
    rw (power, fast) refl

pub returns-in-false-false-clause-answer : goal.returns-in-false-false-clause-answer
unfolding ground_phase
returns-in-false-false-clause-answer c = λ f k tripped inputs.
    let power : f.tp k ≡ false = sym inputs.tp ∙ c.in-false-false.is-0 in
    let fast : f.fast k ≡ false = sym inputs.fast ∙ c.in-false-false.is-1 in
    let bit : trip f k ≡ true = sym tripped ∙ c.if-tripped.true in
    rw (power, fast, bit) refl

pub returns-in-false-false-2-clause-answer : goal.returns-in-false-false-2-clause-answer
unfolding ground_phase
returns-in-false-false-2-clause-answer c = λ f k tripped inputs.
    let power : f.tp k ≡ false = sym inputs.tp ∙ c.in-false-false.is-0 in
    let fast : f.fast k ≡ false = sym inputs.fast ∙ c.in-false-false.is-1 in
    let bit : trip f k ≡ false = sym tripped ∙ c.if-tripped.false in
    rw (power, fast, bit) refl
