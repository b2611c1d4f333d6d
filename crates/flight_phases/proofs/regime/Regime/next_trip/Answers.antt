use Rattle.std.proofs.Common.{◌≡◌, suc, true, false, ◌||◌, sym, ◌∙◌, ap}
use Rattle.flight_phases.proofs.Trips.{trip-restart, trip-runs, trip-landed}
use Rattle.flight_phases.proofs.regime.Regime.next_trip.Goals as goal

pub returns-in-Parked : goal.returns-in-Parked
returns-in-Parked c = λ f k stands on running fast.
    fast ∙ sym (trip-restart f k (rw c.in-Parked.is at stands).0 on running)

pub returns-then-fast : goal.returns-then-fast
returns-then-fast c = λ f k stands on running fast.
    let bit = (rw c.in-Running.is at stands).2 in
    let is_fast : f.fast (suc k) ≡ true = sym fast ∙ c.if-fast.true in
    c.if-fast.true ∙ sym (trip-runs f k c.in-Running.tripped bit on running ∙ ap (λ b. b || c.in-Running.tripped) is_fast)

pub returns-else-fast : goal.returns-else-fast
returns-else-fast c = λ f k stands on running fast.
    let bit = (rw c.in-Running.is at stands).2 in
    let is_slow : f.fast (suc k) ≡ false = sym fast ∙ c.if-fast.false in
    sym (trip-runs f k c.in-Running.tripped bit on running ∙ ap (λ b. b || c.in-Running.tripped) is_slow)

pub returns-in-Airborne : goal.returns-in-Airborne
returns-in-Airborne c = λ f k stands on running fast.
    sym (trip-landed f k (rw c.in-Airborne.is at stands).0 on running)
