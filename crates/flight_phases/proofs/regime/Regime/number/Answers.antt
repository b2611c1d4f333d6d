use Rattle.std.proofs.Common.{sym, ◌∙◌, ap}
use Rattle.flight_phases.proofs.Numbers.{phase-shutdown, phase-stand, phase-running, phase-climb, number_of}
use Rattle.flight_phases.proofs.regime.Regime.number.Goals as goal

pub returns-then-age-lt-SHUTDOWN_MOMENTS-clause-answer : goal.returns-then-age-lt-SHUTDOWN_MOMENTS-clause-answer
returns-then-age-lt-SHUTDOWN_MOMENTS-clause-answer c = λ f k stands inputs.
    sym (phase-shutdown f k c.in-Parked.age c.in-Parked.after_trip (rw c.in-Parked.is at stands) c.if-after_trip.true c.if-age-lt-SHUTDOWN_MOMENTS.true)

pub returns-else-after_trip-clause-answer : goal.returns-else-after_trip-clause-answer
returns-else-after_trip-clause-answer c = λ f k stands inputs.
    sym (phase-stand f k c.in-Parked.age c.in-Parked.after_trip (rw c.in-Parked.is at stands) c.else-after_trip.either)

pub returns-in-Running-clause-answer : goal.returns-in-Running-clause-answer
returns-in-Running-clause-answer c = λ f k stands inputs.
    let runs = rw c.in-Running.is at stands in
    c.running_number.ensures.answer f k runs.2 inputs ∙ sym (phase-running f k runs.0 runs.1)

pub returns-in-Initial-clause-answer : goal.returns-in-Initial-clause-answer
returns-in-Initial-clause-answer c = λ f k stands inputs.
    let flies = rw c.in-Airborne.is at stands in
    ap number_of (sym c.in-Initial.is) ∙ sym (phase-climb f k c.in-Airborne.climb flies.0 flies.1)

pub returns-in-Above-clause-answer : goal.returns-in-Above-clause-answer
returns-in-Above-clause-answer c = λ f k stands inputs.
    let flies = rw c.in-Airborne.is at stands in
    ap number_of (sym c.in-Above.is) ∙ sym (phase-climb f k c.in-Airborne.climb flies.0 flies.1)

pub returns-in-Below-clause-answer : goal.returns-in-Below-clause-answer
returns-in-Below-clause-answer c = λ f k stands inputs.
    let flies = rw c.in-Airborne.is at stands in
    ap number_of (sym c.in-Below.is) ∙ sym (phase-climb f k c.in-Airborne.climb flies.0 flies.1)
