use Rattle.std.proofs.Common.{◌≡◌, true, inl, inr}
use Rattle.flight_phases.proofs.Resting.{phase-stand-rest, phase-shutdown-rest, phase-running-rest, phase-flying-rest}
use Rattle.flight_phases.proofs.regime.Regime.stays.Goals as goal

pub returns-then-not-after_trip : goal.returns-then-not-after_trip
returns-then-not-after_trip c = λ stays f k stands same.
    phase-stand-rest f k same c.in-Parked.age c.in-Parked.after_trip (rw c.in-Parked.is at stands) cc

pub returns-else-not-after_trip : goal.returns-else-not-after_trip
returns-else-not-after_trip c = λ stays f k stands same.
    let tripped : c.in-Parked.after_trip ≡ true = cc in
    phase-shutdown-rest f k same c.in-Parked.age c.in-Parked.after_trip (rw c.in-Parked.is at stands) tripped stays

pub returns-in-Airborne : goal.returns-in-Airborne
returns-in-Airborne c = λ stays f k stands same.
    elim c.in-Airborne.is [
      | inl (climb, flies) ↦ phase-flying-rest f k same climb (rw flies at stands)
      | inr (tripped, runs) ↦ phase-running-rest f k same tripped (rw runs at stands)
    ]
