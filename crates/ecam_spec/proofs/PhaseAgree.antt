-- Flights that agree up to now have one phase now: what comes later has no bearing on it.
use Rattle.std.proofs.Common.{◌≡◌, ℕ, suc, ◌-◌, ◌≤◌, false, not, ◌&&◌, ◌||◌, ltb, ap, ◌∙◌, arith}
use Rattle.std.specs.Prelude.{unwrap_or}
use Rattle.std.specs.Option.{option_map_or}
use Rattle.ecam_spec.specs.Past.{previous, rise, once_from, start_of}
use Rattle.ecam_spec.specs.Phase.{Flight, parked, running, airborne, trip, back_lately, low_marked, marked, high_last, climb_begins, climb_start, climbed, parked_phase, ground_phase, air_phase, phase}
use Rattle.ecam_spec.proofs.PastSteps.{start_of-le}
use Rattle.ecam_spec.proofs.PastMoments.{last-told}
use Rattle.ecam_spec.proofs.PastAgree.{since-below, previous-below, rise-below, last-below, start_of-below, once_from-below}

-- the two flights have the same inputs in moment i
pub record SameInputs (f g : Flight) (i : ℕ) : Type 0 where
  pub gnd : f.gnd i ≡ g.gnd i
  pub run : f.run i ≡ g.run i
  pub tp : f.tp i ≡ g.tp i
  pub fast : f.fast i ≡ g.fast i
  pub high : f.high i ≡ g.high i
  pub low : f.low i ≡ g.low i

module _ (f g : Flight) where
  pub parked-agree : (i : ℕ) → SameInputs f g i → parked f i ≡ parked g i
  parked-agree i s = ap (λ b. b && not (f.run i)) s.gnd ∙ ap (λ b. g.gnd i && not b) s.run

  low_marked-same : (i : ℕ) → SameInputs f g i → low_marked f i ≡ low_marked g i
  low_marked-same i s = ap (λ b. b && not (f.high i)) s.low ∙ ap (λ b. g.low i && not b) s.high

  trips-same : (i : ℕ) → SameInputs f g i → (airborne f i || (running f i && f.fast i)) ≡ (airborne g i || (running g i && g.fast i))
  trips-same i s =
      ap (λ b. not b || ((b && f.run i) && f.fast i)) s.gnd ∙ ap (λ b. airborne g i || ((g.gnd i && b) && f.fast i)) s.run ∙ ap (λ b. airborne g i || (running g i && b)) s.fast

  pub trip-agree : (k : ℕ) → ((i : ℕ) → i ≤ k → SameInputs f g i) → trip f k ≡ trip g k
  unfolding trip
  trip-agree k same =
      since-below
      (λ i. airborne f i || (running f i && f.fast i)) (λ i. airborne g i || (running g i && g.fast i))
      (λ i. not (parked f i)) (λ i. not (parked g i)) k
      (λ i h. trips-same i (same i h)) (λ i h. ap not (parked-agree i (same i h)))

  pub parked_start-agree : (k : ℕ) → ((i : ℕ) → i ≤ k → SameInputs f g i) → start_of (parked f) k ≡ start_of (parked g) k
  parked_start-agree k same = start_of-below (parked f) (parked g) k (λ i h. parked-agree i (same i h))

  -- it was back lately
  pub back_lately-agree : (k : ℕ) → ((i : ℕ) → i ≤ k → SameInputs f g i) → back_lately f k ≡ back_lately g k
  unfolding back_lately
  back_lately-agree k same =
      let within : start_of (parked f) k ≤ suc k = start_of-le (parked f) k in
      ap (λ b. b && ltb (k - start_of (parked f) k) 3000)
      (previous-below (trip f) (trip g) (start_of (parked f) k) (λ i h. trip-agree i (λ j l. same j (omega arith))))
      ∙ ap (λ x. previous (trip g) x && ltb (k - x) 3000) (parked_start-agree k same)

  climb_begins-agree : (k : ℕ) → ((i : ℕ) → i ≤ k → SameInputs f g i) → climb_begins f k ≡ climb_begins g k
  unfolding climb_begins
  climb_begins-agree k same =
      let now = same k (omega arith) in
      ap (λ b. b || (airborne f k && (low_marked f k && f.tp k))) (rise-below (airborne f) (airborne g) k (λ i h. ap not (same i h).gnd))
      ∙ ap (λ b. rise (airborne g) k || (not b && (low_marked f k && f.tp k))) now.gnd
      ∙ ap (λ b. rise (airborne g) k || (airborne g k && (b && f.tp k))) (low_marked-same k now)
      ∙ ap (λ b. rise (airborne g) k || (airborne g k && (low_marked g k && b))) now.tp

  climb_start-agree : (k : ℕ) → ((i : ℕ) → i ≤ k → SameInputs f g i) → climb_start f k ≡ climb_start g k
  unfolding climb_start
  climb_start-agree k same =
      ap (λ l. unwrap_or l 0) (last-below (climb_begins f) (climb_begins g) k (λ i h. climb_begins-agree i (λ j l. same j (omega arith))))

  -- this climb has had a high mark
  pub climbed-agree : (k : ℕ) → ((i : ℕ) → i ≤ k → SameInputs f g i) → climbed f k ≡ climbed g k
  unfolding climbed
  climbed-agree k same =
      ap (λ s. once_from s f.high k) (climb_start-agree k same) ∙ once_from-below (climb_start g k) f.high g.high k (λ i h. (same i h).high)

  -- the latest mark is high
  marked-same : (i : ℕ) → SameInputs f g i → marked f i ≡ marked g i
  marked-same i s = ap (λ b. b || low_marked f i) s.high ∙ ap (λ b. g.high i || b) (low_marked-same i s)

  pub high_last-agree : (k : ℕ) → ((i : ℕ) → i ≤ k → SameInputs f g i) → high_last f k ≡ high_last g k
  unfolding high_last
  high_last-agree k same =
      ap (λ o. option_map_or f.high o false) (last-below (marked f) (marked g) k (λ i h. marked-same i (same i h)))
      ∙ last-told f.high g.high (marked g) k (λ i h. (same i h).high)

  pub phase-agree : (k : ℕ) → ((i : ℕ) → i ≤ k → SameInputs f g i) → phase f k ≡ phase g k
  unfolding phase parked_phase ground_phase air_phase
  phase-agree k same =
      let now = same k (omega arith) in
      let gnd = now.gnd in
      let run = now.run in
      let tp = now.tp in
      let fast = now.fast in
      let trip_now = trip-agree k same in
      let back = back_lately-agree k same in
      let passed = climbed-agree k same in
      let latest = high_last-agree k same in
      cc
