use Rattle.std.proofs.Common.{true, sym, arith}
use Rattle.flight_phases.proofs.Trips.{trip-airborne}
use Rattle.flight_phases.proofs.Stretches.{parked-on, parked-after, parked-running, parked-airborne}
use Rattle.flight_phases.proofs.regime.Regime.next_parked.Goals as goal

pub returns-in-Parked : goal.returns-in-Parked
returns-in-Parked c = λ f k stands now.
    parked-on f k c.in-Parked.age c.min.result c.in-Parked.after_trip (rw c.in-Parked.is at stands) (omega arith) now

pub returns-in-Running : goal.returns-in-Running
returns-in-Running c = λ f k stands now.
    let runs = rw c.in-Running.is at stands in
    rw c.just_parked.ensures (parked-after f k c.in-Running.tripped (parked-running f k runs.1) runs.2 now)

pub returns-in-Airborne : goal.returns-in-Airborne
returns-in-Airborne c = λ f k stands now.
    let flies = rw c.in-Airborne.is at stands in
    rw c.just_parked-in-Airborne.ensures (parked-after f k true (parked-airborne f k flies.0) (sym (trip-airborne f k flies.0)) now)
