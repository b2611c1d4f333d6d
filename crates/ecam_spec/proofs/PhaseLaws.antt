-- In each moment exactly one rule of the phases applies, and the phase is its number.
use Rattle.std.proofs.Common.{◌≡◌, ℕ, zero, suc, ◌-◌, ◌<◌, ◌≤◌, Bool, true, false, not, ◌&&◌, ◌||◌, List, [], ◌∷◌, Option, Some, None, get_or, refl, ◌∙◌, ap, ltb, arith}
use Rattle.std.specs.Prelude.{count_by, if◌then◌else◌}
use Rattle.std.specs.Option.{option_map_or}
use Rattle.std.proofs.lemmas.Bool.{and_parts}
use Rattle.ecam_spec.specs.Past.{Signal, previous, last, start_of}
use Rattle.ecam_spec.specs.Phase.{Flight, parked, running, airborne, trip, back_lately, low_marked, marked, climbed, high_last, phase, ground_phase, parked_phase, air_phase}
use Rattle.ecam_spec.specs.PhaseRules.{rules}
use Rattle.ecam_spec.proofs.PastSteps.{start_of-off}
use Rattle.ecam_spec.proofs.PastLaws.{since-broken}
use Rattle.ecam_spec.proofs.PastMoments.{start_of-kept}

-- the same over eight truths: on ground, run, take-off power, fast, trip, back lately, climbed, high last
rules_of : (g r t f w b c h : Bool) → List Bool
rules_of g r t f w b c h =
    ((g && not r) && not b)
    ∷ ((g && r) && ((not t && not f) && not w))
    ∷ ((g && r) && (t && not f))
    ∷ ((g && r) && (t && f))
    ∷ (not g && not c)
    ∷ (not g && (c && h))
    ∷ (not g && (c && not h))
    ∷ ((g && r) && (not t && f))
    ∷ ((g && r) && ((not t && not f) && w))
    ∷ ((g && not r) && b)
    ∷ []

phase_of : (g r t f w b c h : Bool) → ℕ
phase_of g r t f w b c h =
    if g then (if r then (if t then (if f then 4 else 3) else (if f then 8 else (if w then 9 else 2))) else (if b then 10 else 1))
    else (if c then (if h then 6 else 7) else 5)

one_of : (g r t f w b c h : Bool) → count_by (λ x. x) (rules_of g r t f w b c h) ≡ 1
unfolding rules_of
one_of true true true true w b c h = refl
one_of true true true false w b c h = refl
one_of true true false true w b c h = refl
one_of true true false false true b c h = refl
one_of true true false false false b c h = refl
one_of true false t f w true c h = refl
one_of true false t f w false c h = refl
one_of false r t f w b true true = refl
one_of false r t f w b true false = refl
one_of false r t f w b false h = refl

number_of : (g r t f w b c h : Bool) → get_or (rules_of g r t f w b c h) (phase_of g r t f w b c h - 1) false ≡ true
unfolding rules_of phase_of
number_of true true true true w b c h = refl
number_of true true true false w b c h = refl
number_of true true false true w b c h = refl
number_of true true false false true b c h = refl
number_of true true false false false b c h = refl
number_of true false t f w true c h = refl
number_of true false t f w false c h = refl
number_of false r t f w b true true = refl
number_of false r t f w b true false = refl
number_of false r t f w b false h = refl

pub one_rule : (f : Flight) (k : ℕ) → count_by (λ x. x) (rules f k) ≡ 1
unfolding rules rules_of
one_rule f k = one_of (f.gnd k) (f.run k) (f.tp k) (f.fast k) (trip f k) (back_lately f k) (climbed f k) (high_last f k)

pub phase_of_its_rule : (f : Flight) (k : ℕ) → get_or (rules f k) (phase f k - 1) false ≡ true
unfolding rules rules_of phase phase_of ground_phase parked_phase air_phase
phase_of_its_rule f k = number_of (f.gnd k) (f.run k) (f.tp k) (f.fast k) (trip f k) (back_lately f k) (climbed f k) (high_last f k)

and-not : (a b : Bool) → (a && not b) ≡ true → b ≡ false
and-not true true h = absurd (let w : ⊥ = cc in w)
and-not true false h = refl
and-not false b h = absurd (let w : ⊥ = cc in w)

previous-suc : (p : Signal) (x : ℕ) → previous p (suc x) ≡ p x
unfolding previous
previous-suc p x = refl

-- after a trip the aircraft is in phase 10 for the first five minutes that it is parked, and then in phase 1
parked-phase : (g r b : Bool) (n : ℕ) (a : ℕ) → g ≡ true → r ≡ false → (if g then (if r then n else (if b then 10 else 1)) else a) ≡ (if b then 10 else 1)
parked-phase g r b n a e f = rw (e, f) refl

pub parked_after_a_trip : (f : Flight) (x k : ℕ) → x < k → trip f x ≡ true → parked f x ≡ false → ((i : ℕ) → x < i → i ≤ k → parked f i ≡ true) → phase f k ≡ (if ltb (k - suc x) 3000 then 10 else 1)
unfolding phase parked_phase back_lately
parked_after_a_trip f x k after tripped off on =
    let now : parked f k ≡ true = on k after (omega arith) in
    let begun : start_of (parked f) k ≡ suc x = start_of-kept (parked f) x k (omega arith) on ∙ start_of-off (parked f) x off in
    parked-phase (f.gnd k) (f.run k) (previous (trip f) (start_of (parked f) k) && ltb (k - start_of (parked f) k) 3000) (ground_phase f k) (air_phase f k)
    ((and_parts (f.gnd k) (not (f.run k)) now).0) (and-not (f.gnd k) (f.run k) now)
    ∙ ap (λ m. if previous (trip f) m && ltb (k - m) 3000 then 10 else 1) begun
    ∙ ap (λ b. if b && ltb (k - suc x) 3000 then 10 else 1) (previous-suc (trip f) x ∙ tripped)

no-trip : (g r f : Bool) → g ≡ true → r ≡ false → (not g || ((g && r) && f)) ≡ false
no-trip g r f e h = rw (e, h) refl

-- while the aircraft is parked no trip has begun
pub parked_ends_a_trip : (f : Flight) (k : ℕ) → parked f k ≡ true → trip f k ≡ false
unfolding trip
parked_ends_a_trip f k here =
    since-broken (λ i. airborne f i || (running f i && f.fast i)) (λ i. not (parked f i)) k
    (no-trip (f.gnd k) (f.run k) (f.fast k) ((and_parts (f.gnd k) (not (f.run k)) here).0) (and-not (f.gnd k) (f.run k) here)) (ap not here)

mark-step : (p : Signal) (n : ℕ) (o : Option ℕ) (h l : Bool) → p n ≡ h → option_map_or p (elim (h || (l && not h)) [ true ↦ Some n | false ↦ o ]) false ≡ (h || (not (l && not h) && option_map_or p o false))
mark-step p n o true l e = e
mark-step p n o false true e = e
mark-step p n o false false e = refl

-- the latest mark was high: there is one now, or none now and the one before was
pub high_last-now : (f : Flight) (k : ℕ) → high_last f k ≡ (f.high k || (not (low_marked f k) && previous (high_last f) k))
unfolding high_last last previous
high_last-now f zero = mark-step f.high 0 None (f.high 0) (f.low 0) refl
high_last-now f (suc k) = mark-step f.high (suc k) (last (marked f) k) (f.high (suc k)) (f.low (suc k)) refl
