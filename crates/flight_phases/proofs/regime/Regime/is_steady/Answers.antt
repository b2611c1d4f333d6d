use Rattle.std.proofs.Common.{inl, inr, eqb-true}
use Rattle.flight_phases.proofs.Resting.{running-rest, flying-rest, phase-running-rest, phase-flying-rest, parked_long-rest, phase-long-rest}
use Rattle.flight_phases.proofs.regime.Regime.is_steady.Goals as goal

pub returns-in-Parked-clause-phase : goal.returns-in-Parked-clause-phase
returns-in-Parked-clause-phase c = λ steady f k stands same.
    phase-long-rest f k same c.in-Parked.age c.in-Parked.after_trip (eqb-true _ _ steady) (rw c.in-Parked.is at stands)

pub returns-in-Parked-clause-stands : goal.returns-in-Parked-clause-stands
returns-in-Parked-clause-stands c = λ steady f k same stands.
    rw c.in-Parked.is (parked_long-rest f k same c.in-Parked.age c.in-Parked.after_trip (eqb-true _ _ steady) (rw c.in-Parked.is at stands))

pub returns-in-Running-clause-phase : goal.returns-in-Running-clause-phase
returns-in-Running-clause-phase c = λ steady f k stands same.
    elim c.in-Running.is [
      | inl (tripped, runs) ↦ phase-running-rest f k same tripped (rw runs at stands)
      | inr (climb, flies) ↦ phase-flying-rest f k same climb (rw flies at stands)
    ]

pub returns-in-Running-clause-stands : goal.returns-in-Running-clause-stands
returns-in-Running-clause-stands c = λ steady f k same stands.
    elim c.in-Running.is [
      | inl (tripped, runs) ↦ rw runs (running-rest f k same tripped (rw runs at stands))
      | inr (climb, flies) ↦ rw flies (flying-rest f k same climb (rw flies at stands))
    ]
