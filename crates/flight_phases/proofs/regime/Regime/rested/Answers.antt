use Rattle.std.proofs.Common.{inl, inr}
use Rattle.flight_phases.proofs.Resting.{running-rest, flying-rest}
use Rattle.flight_phases.proofs.regime.Regime.rested.Goals as goal

pub returns-in-Running : goal.returns-in-Running
returns-in-Running c = λ f k same stands.
    elim c.in-Running.is [
      | inl (tripped, runs) ↦ rw runs (running-rest f k same tripped (rw runs at stands))
      | inr (climb, flies) ↦ rw flies (flying-rest f k same climb (rw flies at stands))
    ]
