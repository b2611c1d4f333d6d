-- The phase by what is known of a moment.
use Rattle.std.proofs.Common.{◌≡◌, ℕ, ◌-◌, ◌<◌, ◌≤◌, min, Bool, true, false, not, ◌&&◌, ◌⊎◌, inl, inr, cond, ltb, refl, sym, ◌∙◌, ap, IsTrue, arith}
use Rattle.std.proofs.lemmas.Bool.{lt-ltb, le-ltb}
use Rattle.ecam_spec.specs.Past.{previous, start_of}
use Rattle.ecam_spec.specs.Phase.{Flight, parked, airborne, trip, back_lately, climbed, high_last, phase, parked_phase, ground_phase, air_phase}
use Rattle.flight_phases.specs.declared.regime.Regime.TheVariants.{Parked}
use Rattle.flight_phases.specs.declared.climb.Climb.{Climb}
use Rattle.flight_phases.specs.declared.climb.Climb.TheVariants.{Initial, Above, Below}
use Rattle.flight_phases.specs.Climbs.{climb_of, climb_at}
use Rattle.flight_phases.specs.Regimes.{StandsAs}

-- the cases of where the aircraft is
abbrev by_place : Bool → Bool → ℕ → ℕ → ℕ → ℕ
by_place gnd run running at_stand in_air = cond gnd (cond run running at_stand) in_air

place-parked : (gnd run : Bool) (a b c : ℕ) → (gnd && not run) ≡ true → by_place gnd run a b c ≡ b
place-parked true false a b c h = refl
place-parked true true a b c h = cc
place-parked false run a b c h = cc

place-airborne : (gnd run : Bool) (a b c : ℕ) → not gnd ≡ true → by_place gnd run a b c ≡ c
place-airborne false run a b c h = refl
place-airborne true run a b c h = cc

pub phase-parked : (f : Flight) (k : ℕ) → IsTrue (parked f k) → phase f k ≡ parked_phase f k
unfolding phase
phase-parked f k h = place-parked (f.gnd k) (f.run k) (ground_phase f k) (parked_phase f k) (air_phase f k) h

pub phase-running : (f : Flight) (k : ℕ) → IsTrue (f.gnd k) → IsTrue (f.run k) → phase f k ≡ ground_phase f k
unfolding phase
phase-running f k on running = rw (on, running) refl

pub phase-airborne : (f : Flight) (k : ℕ) → IsTrue (airborne f k) → phase f k ≡ air_phase f k
unfolding phase
phase-airborne f k h = place-airborne (f.gnd k) (f.run k) (ground_phase f k) (parked_phase f k) (air_phase f k) h

-- five minutes after a trip
pub phase-shutdown : (f : Flight) (k : ℕ) (age : ℕ) (after_trip : Bool) → StandsAs f k (Parked age after_trip) → after_trip ≡ true → age < 3000 → phase f k ≡ 10
unfolding parked_phase back_lately
phase-shutdown f k age after_trip stands tripped young =
    let start = start_of (parked f) k in
    let bit : previous (trip f) start ≡ true = sym stands.2 ∙ tripped in
    let age_is : age ≡ min (k - start) 3000 = stands.1 in
    let below : ltb (k - start) 3000 ≡ true = lt-ltb (k - start) 3000 (omega arith) in
    phase-parked f k stands.0 ∙ rw (bit, below) refl

-- at the stand otherwise
pub phase-stand : (f : Flight) (k : ℕ) (age : ℕ) (after_trip : Bool) → StandsAs f k (Parked age after_trip) → ((after_trip ≡ true) × (3000 ≤ age)) ⊎ (after_trip ≡ false) → phase f k ≡ 1
unfolding parked_phase back_lately
phase-stand f k age after_trip stands (inl (tripped, old)) =
    let start = start_of (parked f) k in
    let bit : previous (trip f) start ≡ true = sym stands.2 ∙ tripped in
    let age_is : age ≡ min (k - start) 3000 = stands.1 in
    let above : ltb (k - start) 3000 ≡ false = le-ltb (k - start) 3000 (omega arith) in
    phase-parked f k stands.0 ∙ rw (bit, above) refl
phase-stand f k age after_trip stands (inr untripped) =
    let start = start_of (parked f) k in
    let bit : previous (trip f) start ≡ false = sym stands.2 ∙ untripped in
    phase-parked f k stands.0 ∙ rw bit refl

-- the phase of each climb
abbrev pub number_of : Climb → ℕ
number_of Initial = 5
number_of Above = 6
number_of Below = 7

climb-number : (passed latest : Bool) → cond passed (cond latest 6 7) 5 ≡ number_of (climb_of passed latest)
climb-number false latest = refl
climb-number true true = refl
climb-number true false = refl

pub phase-climb : (f : Flight) (k : ℕ) (climb : Climb) → IsTrue (airborne f k) → climb ≡ climb_at f k → phase f k ≡ number_of climb
unfolding air_phase
phase-climb f k climb air is = phase-airborne f k air ∙ climb-number (climbed f k) (high_last f k) ∙ ap number_of (sym is)
