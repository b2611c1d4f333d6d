use Rattle.std.proofs.Common.{◌≡◌, ℕ, ◌-◌, ◌<◌, ◌≤◌, Bool, true, false, not, ◌&&◌, ◌||◌, ◌==◌, List, refl, ◌∙◌, ap, cond, ltb, codes, lit<, lit≤, arith}
use Rattle.std.specs.Prelude.{if◌then◌else◌}
use Rattle.std.specs.List.{list_any}
use Rattle.std.proofs.lemmas.Bool.{lt-ltb, le-ltb}
use Rattle.ecam_spec.specs.Opened.{opened}
use Rattle.ecam_spec.specs.Phase.{parked, running, airborne, trip, phase, ground_phase}
use Rattle.ecam_spec.proofs.PhaseLaws.{parked_after_a_trip, parked_ends_a_trip}
use Rattle.ecam_spec.proofs.PastSteps.{since-suc}
use Rattle.worked_rows.specs.Flights.{flight, five_flights_and_a_stay}
use Rattle.worked_rows.proofs.phases.phases_of_five_flights.Goals as goal

-- in the stay each word is that of the ground
stay-word : (b c : Bool) (x y z : List ℕ) → b ≡ false → c ≡ true → cond b x (cond c y z) ≡ y
stay-word b c x y z e f = rw (e, f) refl

staying : (k : ℕ) → 19 ≤ k → k < 3020 → five_flights_and_a_stay k ≡ codes "G"
staying k low high = stay-word (ltb k 19) (ltb (k - 19) 3001) _ _ _ (le-ltb k 19 low) (lt-ltb (k - 19) 3001 (omega arith))

stays-parked : (k : ℕ) → 19 ≤ k → k < 3020 → parked (flight five_flights_and_a_stay) k ≡ true
stays-parked k low high = ap (λ w. list_any (λ x. x == 71) w && not (list_any (λ x. x == 82) w)) (staying k low high)

-- the last flight was a trip, and its last moment isn't parked
landed : trip (flight five_flights_and_a_stay) 18 ≡ true
unfolding opened
landed = refl

taxied : parked (flight five_flights_and_a_stay) 18 ≡ false
taxied = refl

stay : (k : ℕ) → 19 ≤ k → k < 3020 → phase (flight five_flights_and_a_stay) k ≡ (if ltb (k - 19) 3000 then 10 else 1)
stay k low high =
    parked_after_a_trip (flight five_flights_and_a_stay) 18 k low landed taxied (λ i a b. stays-parked i a (omega arith))

no-trip : trip (flight five_flights_and_a_stay) 3020 ≡ false
unfolding trip
no-trip =
    let f = flight five_flights_and_a_stay in
    since-suc (λ k. airborne f k || (running f k && f.fast k)) (λ k. not (parked f k)) 3019
    ∙ parked_ends_a_trip f 3019 (stays-parked 3019 (lit≤ tt) (lit< tt))

pub returns-clause-flights : goal.returns-clause-flights
unfolding opened
returns-clause-flights c = refl

pub returns-clause-parked : goal.returns-clause-parked
returns-clause-parked c k low high = stay k low (omega arith) ∙ ap (λ b. if b then 10 else 1) (lt-ltb (k - 19) 3000 (omega arith))

pub returns-clause-parked_longer : goal.returns-clause-parked_longer
returns-clause-parked_longer c = stay 3019 (lit≤ tt) (lit< tt)

pub returns-clause-started : goal.returns-clause-started
unfolding phase ground_phase
returns-clause-started c = ap (λ b. if b then 9 else 2) no-trip
