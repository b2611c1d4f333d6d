-- A moment with the inputs of the one before.
use Rattle.std.proofs.Common.{◌≡◌, ℕ, suc, ◌+◌, ◌<◌, ◌≤◌, ◌⊎◌, inl, inr, min, Bool, true, false, not, ◌&&◌, ◌||◌, nat_eq, refl, sym, ◌∙◌, ap, IsTrue, subst, arith}
use Rattle.std.proofs.Math.Nat.{eq-or-lt_of_le}
use Rattle.std.proofs.lemmas.Bool.{cases_lt}
use Rattle.ecam_spec.specs.Phase.{Flight, parked, running, airborne, trip, high_last, climbed, phase, ground_phase}
use Rattle.ecam_spec.proofs.PastMoments.{since-rest}
use Rattle.ecam_spec.proofs.PhaseLaws.{high_last-now}
use Rattle.flight_phases.specs.declared.regime.Regime.TheVariants.{Parked, Running, Airborne}
use Rattle.flight_phases.specs.declared.climb.Climb.{Climb}
use Rattle.flight_phases.specs.Climbs.{climb_at}
use Rattle.flight_phases.specs.Inputs.{SameInputs}
use Rattle.flight_phases.specs.Regimes.{StandsAs}
use Rattle.flight_phases.proofs.Stretches.{parked-on}
use Rattle.flight_phases.proofs.Climbing.{climb-high, climb-unmarked, climb-begins, climb-low, begins-go_around, lowered-of}
use Rattle.flight_phases.proofs.Numbers.{phase-shutdown, phase-stand, phase-running, phase-climb}

-- in the next moment the five minutes don't end
no_end : (age : ℕ) → not (nat_eq age 2999) ≡ true → (age < 2999) ⊎ (3000 ≤ age)
no_end age h = elim (cases_lt age 2999) [
  | inl before ↦ inl before
  | inr from ↦ elim (eq-or-lt_of_le from) [ inl is ↦ (let never : false ≡ true = rw (sym is) at h in cc) | inr after ↦ inr (omega arith) ]
]

module _ (f : Flight) (k : ℕ) (same : SameInputs f k) where
  pub parked-rest : parked f (suc k) ≡ parked f k
  parked-rest = rw (same.gnd, same.run) refl

  pub airborne-rest : airborne f (suc k) ≡ airborne f k
  airborne-rest = ap not same.gnd

  pub trip-rest : trip f (suc k) ≡ trip f k
  unfolding trip
  trip-rest = since-rest (λ i. airborne f i || (running f i && f.fast i)) (λ i. not (parked f i)) k (rw (same.gnd, same.run, same.fast) refl) (rw (same.gnd, same.run) refl)

  -- after a low mark the latest mark isn't high
  low-latest : f.high k ≡ false → f.low k ≡ true → high_last f k ≡ false
  low-latest h l = high_last-now f k ∙ rw (h, l) refl

  climb-rest-by : (high low tp : Bool) → f.high k ≡ high → f.low k ≡ low → f.tp k ≡ tp → IsTrue (airborne f k) → climb_at f (suc k) ≡ climb_at f k
  climb-rest-by true low tp h l t air = climb-high f (suc k) (same.high ∙ h) ∙ sym (climb-high f k h)
  climb-rest-by false false tp h l t air = climb-unmarked f k air (same.high ∙ h) (same.low ∙ l)
  climb-rest-by false true true h l t air =
      climb-begins f (suc k) (begins-go_around f (suc k) (airborne-rest ∙ air) (same.high ∙ h) (same.low ∙ l) (same.tp ∙ t)) (same.high ∙ h)
      ∙ sym (climb-begins f k (begins-go_around f k air h l t) h)
  climb-rest-by false true false h l t air =
      climb-low f k air (same.high ∙ h) (same.low ∙ l) (same.tp ∙ t)
      ∙ rw (low-latest h l) (sym (lowered-of (climbed f k) false))

  pub climb-rest : IsTrue (airborne f k) → climb_at f (suc k) ≡ climb_at f k
  climb-rest = climb-rest-by (f.high k) (f.low k) (f.tp k) refl refl refl

  -- an engine runs on ground
  pub running-rest : (tripped : Bool) → StandsAs f k (Running tripped) → StandsAs f (suc k) (Running tripped)
  running-rest tripped stands = (same.gnd ∙ stands.0, same.run ∙ stands.1, stands.2 ∙ sym trip-rest)

  -- the aircraft is in the air
  pub flying-rest : (climb : Climb) → StandsAs f k (Airborne climb) → StandsAs f (suc k) (Airborne climb)
  flying-rest climb stands = (airborne-rest ∙ stands.0, stands.1 ∙ sym (climb-rest stands.0))

  pub phase-running-rest : (tripped : Bool) → StandsAs f k (Running tripped) → phase f (suc k) ≡ phase f k
  unfolding ground_phase
  phase-running-rest tripped stands =
      let next = running-rest tripped stands in
      phase-running f (suc k) next.0 next.1
      ∙ rw (same.tp, same.fast, trip-rest) (sym (phase-running f k stands.0 stands.1))

  pub phase-flying-rest : (climb : Climb) → StandsAs f k (Airborne climb) → phase f (suc k) ≡ phase f k
  phase-flying-rest climb stands =
      let next = flying-rest climb stands in
      phase-climb f (suc k) climb next.0 next.1 ∙ sym (phase-climb f k climb stands.0 stands.1)

  -- it is parked
  parked_on-rest : (age : ℕ) (after_trip : Bool) → StandsAs f k (Parked age after_trip) → StandsAs f (suc k) (Parked (min (age + 1) 3000) after_trip)
  parked_on-rest age after_trip stands = parked-on f k age (min (age + 1) 3000) after_trip stands refl (parked-rest ∙ stands.0)

  -- not after a trip
  pub phase-stand-rest : (age : ℕ) (after_trip : Bool) → StandsAs f k (Parked age after_trip) → after_trip ≡ false → phase f (suc k) ≡ phase f k
  phase-stand-rest age after_trip stands untripped =
      phase-stand f (suc k) (min (age + 1) 3000) after_trip (parked_on-rest age after_trip stands) (inr untripped)
      ∙ sym (phase-stand f k age after_trip stands (inr untripped))

  -- after a trip, where the five minutes don't end
  pub phase-shutdown-rest : (age : ℕ) (after_trip : Bool) → StandsAs f k (Parked age after_trip) → after_trip ≡ true → not (nat_eq age 2999) ≡ true → phase f (suc k) ≡ phase f k
  phase-shutdown-rest age after_trip stands tripped h =
      let next = parked_on-rest age after_trip stands in
      elim (no_end age h) [
        | inl young ↦ phase-shutdown f (suc k) (min (age + 1) 3000) after_trip next tripped (omega (arith, young)) ∙ sym (phase-shutdown f k age after_trip stands tripped (omega (arith, young)))
        | inr old ↦ phase-stand f (suc k) (min (age + 1) 3000) after_trip next (inl (tripped, omega (arith, old))) ∙ sym (phase-stand f k age after_trip stands (inl (tripped, old)))
      ]

  -- it was parked for five minutes: nothing is counted any more
  pub parked_long-rest : (age : ℕ) (after_trip : Bool) → age ≡ 3000 → StandsAs f k (Parked age after_trip) → StandsAs f (suc k) (Parked age after_trip)
  parked_long-rest age after_trip is stands =
      let end : min (age + 1) 3000 ≡ age = omega (arith, is) in
      subst (λ n. StandsAs f (suc k) (Parked n after_trip)) end (parked_on-rest age after_trip stands)

  pub phase-long-rest : (age : ℕ) (after_trip : Bool) → age ≡ 3000 → StandsAs f k (Parked age after_trip) → phase f (suc k) ≡ phase f k
  phase-long-rest age true is stands = phase-shutdown-rest age true stands refl (rw is refl)
  phase-long-rest age false is stands = phase-stand-rest age false stands refl
