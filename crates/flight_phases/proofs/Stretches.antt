-- The step of the stretch on ground with no engine running.
use Rattle.std.proofs.Common.{◌≡◌, ℕ, suc, ◌+◌, ◌-◌, ◌≤◌, min, Bool, true, false, not, ◌&&◌, ◌⊎◌, inl, inr, refl, sym, ◌∙◌, ap, IsTrue, arith}
use Rattle.ecam_spec.specs.Past.{previous, start_of}
use Rattle.ecam_spec.specs.Phase.{Flight, parked, airborne, trip}
use Rattle.ecam_spec.proofs.PastSteps.{start_of-on, start_of-rise, start_of-on-le}
use Rattle.flight_phases.specs.declared.regime.Regime.{Regime}
use Rattle.flight_phases.specs.declared.regime.Regime.TheVariants.{Parked, Running}
use Rattle.flight_phases.specs.Regimes.{StandsAs}

-- it goes on
pub parked-on : (f : Flight) (k : ℕ) (age next_age : ℕ) (after_trip : Bool) → StandsAs f k (Parked age after_trip) → next_age ≡ min (age + 1) 3000 → IsTrue (parked f (suc k)) → StandsAs f (suc k) (Parked next_age after_trip)
parked-on f k age next_age after_trip before counted now =
    let same : start_of (parked f) (suc k) ≡ start_of (parked f) k = start_of-on (parked f) k now in
    let within : start_of (parked f) k ≤ k = start_of-on-le (parked f) k before.0 in
    let age_is : age ≡ min (k - start_of (parked f) k) 3000 = before.1 in
    (now, omega arith, before.2 ∙ ap (previous (trip f)) (sym same))

-- it begins
pub parked-begins : (f : Flight) (k : ℕ) → previous (parked f) k ≡ false → IsTrue (parked f k) → StandsAs f k (Parked 0 (previous (trip f) k))
parked-begins f k before now =
    let here : start_of (parked f) k ≡ k = start_of-rise (parked f) k now before in
    (now, omega arith, ap (previous (trip f)) (sym here))

-- it begins with the first moment
pub parked-first : (f : Flight) → IsTrue (parked f 0) → StandsAs f 0 (Parked 0 false)
unfolding previous
parked-first f now = parked-begins f 0 refl now

-- it begins after moment k
pub parked-after : (f : Flight) (k : ℕ) (bit : Bool) → parked f k ≡ false → bit ≡ trip f k → IsTrue (parked f (suc k)) → StandsAs f (suc k) (Parked 0 bit)
unfolding previous
parked-after f k bit before is now =
    let begins = parked-begins f (suc k) before now in
    (now, begins.1, is ∙ begins.2)

not-running : (gnd run : Bool) → run ≡ true → (gnd && not run) ≡ false
not-running true true h = refl
not-running false run h = refl
not-running true false h = cc

not-airborne : (gnd run : Bool) → not gnd ≡ true → (gnd && not run) ≡ false
not-airborne false run h = refl
not-airborne true run h = cc

-- an engine runs
pub parked-running : (f : Flight) (k : ℕ) → IsTrue (f.run k) → parked f k ≡ false
parked-running f k h = not-running (f.gnd k) (f.run k) h

-- the aircraft is in the air
pub parked-airborne : (f : Flight) (k : ℕ) → IsTrue (airborne f k) → parked f k ≡ false
parked-airborne f k h = not-airborne (f.gnd k) (f.run k) h

-- it is on ground with no engine running
pub parked-is : (f : Flight) (k : ℕ) → f.gnd k ≡ true → f.run k ≡ false → IsTrue (parked f k)
parked-is f k on off = rw (on, off) refl

on_ground : (gnd run : Bool) → (gnd && not run) ≡ true → not gnd ≡ false
on_ground true run h = refl
on_ground false run h = cc

-- a moment that stands as on ground isn't in the air
pub airborne-ground : (f : Flight) (k : ℕ) (s : Regime) → ((age : ℕ) × (after_trip : Bool) × (s ≡ Parked age after_trip)) ⊎ ((tripped : Bool) × (s ≡ Running tripped)) → StandsAs f k s → airborne f k ≡ false
airborne-ground f k s (inl (age, after_trip, is)) stands = on_ground (f.gnd k) (f.run k) (rw is at stands).0
airborne-ground f k s (inr (tripped, is)) stands = ap not (rw is at stands).0
