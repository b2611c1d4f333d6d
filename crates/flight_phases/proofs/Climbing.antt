-- The step of the climb.
use Rattle.std.proofs.Common.{◌≡◌, ℕ, suc, ◌≤◌, Bool, true, false, not, ◌&&◌, ◌||◌, cond, refl, ◌∙◌, ap, IsTrue, arith}
use Rattle.std.specs.Prelude.{Some, unwrap_or}
use Rattle.std.proofs.lemmas.Bool.{and_right}
use Rattle.ecam_spec.specs.Past.{previous, rise, last, once_from}
use Rattle.ecam_spec.specs.Phase.{Flight, airborne, low_marked, high_last, climb_begins, climb_start, climbed}
use Rattle.ecam_spec.proofs.PhaseLaws.{high_last-now}
use Rattle.ecam_spec.proofs.PastSteps.{once_from-here, once_from-now, once_from-suc, last-here, last-le, last-suc}
use Rattle.flight_phases.specs.declared.climb.Climb.{Climb}
use Rattle.flight_phases.specs.declared.climb.Climb.TheVariants.{Initial, Above, Below}
use Rattle.flight_phases.specs.Climbs.{climb_of, climb_at}

-- whether a climb begins, by the inputs of the moment and whether the one before was in the air
abbrev begins_of : Bool → Bool → Bool → Bool → Bool → Bool
begins_of air before low high tp = (air && not before) || (air && ((low && not high) && tp))

begins-now : (f : Flight) (k : ℕ) → climb_begins f k ≡ begins_of (airborne f k) (previous (airborne f) k) (f.low k) (f.high k) (f.tp k)
unfolding climb_begins rise
begins-now f k = refl

lift_off-begins : (air before low high tp : Bool) → air ≡ true → before ≡ false → begins_of air before low high tp ≡ true
lift_off-begins true false low high tp a b = refl
lift_off-begins false before low high tp a b = cc
lift_off-begins true true low high tp a b = cc

go_around-begins : (air before low high tp : Bool) → air ≡ true → low ≡ true → high ≡ false → tp ≡ true → begins_of air before low high tp ≡ true
go_around-begins true true true false true a l h t = refl
go_around-begins true false true false true a l h t = refl
go_around-begins false before low high tp a l h t = cc
go_around-begins true before false high tp a l h t = cc
go_around-begins true before true true tp a l h t = cc
go_around-begins true before true false false a l h t = cc

none-begins : (air before low high tp : Bool) → before ≡ true → (low && tp) ≡ false → begins_of air before low high tp ≡ false
none-begins true true false high tp b l = refl
none-begins true true true true tp b l = refl
none-begins true true true false tp b l = l
none-begins false before low high tp b l = refl
none-begins true false low high tp b l = cc

-- a climb begins where the aircraft lifts off, and where the flight begins in the air
pub begins-lift_off : (f : Flight) (k : ℕ) → IsTrue (airborne f k) → previous (airborne f) k ≡ false → IsTrue (climb_begins f k)
begins-lift_off f k air before = begins-now f k ∙ lift_off-begins (airborne f k) (previous (airborne f) k) (f.low k) (f.high k) (f.tp k) air before

-- a climb begins where the aircraft is low with take-off power
pub begins-go_around : (f : Flight) (k : ℕ) → IsTrue (airborne f k) → f.high k ≡ false → f.low k ≡ true → f.tp k ≡ true → IsTrue (climb_begins f k)
begins-go_around f k air h l t = begins-now f k ∙ go_around-begins (airborne f k) (previous (airborne f) k) (f.low k) (f.high k) (f.tp k) air l h t

climb_start-here : (f : Flight) (k : ℕ) → climb_begins f k ≡ true → climb_start f k ≡ k
unfolding climb_start
climb_start-here f k h = ap (λ s. unwrap_or s 0) (last-here (climb_begins f) k h)

climb_start-on : (f : Flight) (j : ℕ) → climb_begins f (suc j) ≡ false → climb_start f (suc j) ≡ climb_start f j
unfolding climb_start
climb_start-on f j h =
    ap (λ s. unwrap_or s 0) (last-suc (climb_begins f) j ∙ ap (λ b. cond b (Some (suc j)) (last (climb_begins f) j)) h)

climb_start-le : (f : Flight) (k : ℕ) → climb_start f k ≤ k
unfolding climb_start
climb_start-le f k = last-le (climb_begins f) k

climbed-here : (f : Flight) (k : ℕ) → climb_begins f k ≡ true → climbed f k ≡ f.high k
unfolding climbed
climbed-here f k h = ap (λ s. once_from s f.high k) (climb_start-here f k h) ∙ once_from-here f.high k

climbed-on : (f : Flight) (j : ℕ) → climb_begins f (suc j) ≡ false → climbed f (suc j) ≡ (f.high (suc j) || climbed f j)
unfolding climbed
climbed-on f j h =
    let within : climb_start f j ≤ suc j = omega (arith, climb_start-le f j) in
    ap (λ s. once_from s f.high (suc j)) (climb_start-on f j h) ∙ once_from-suc (climb_start f j) f.high j within

marks-on : (high low before : Bool) → high ≡ false → (high || (not (low && not high) && before)) ≡ (not low && before)
marks-on false true before h = refl
marks-on false false before h = refl
marks-on true low before h = cc

latest-on : (f : Flight) (j : ℕ) → f.high (suc j) ≡ false → high_last f (suc j) ≡ (not (f.low (suc j)) && high_last f j)
unfolding previous
latest-on f j h = high_last-now f (suc j) ∙ marks-on (f.high (suc j)) (f.low (suc j)) (high_last f j) h

-- a high mark
pub climb-high : (f : Flight) (k : ℕ) → f.high k ≡ true → climb_at f k ≡ Above
unfolding climbed
climb-high f k h =
    let passed : climbed f k ≡ true = once_from-now (climb_start f k) f.high k (climb_start-le f k) h in
    let latest : high_last f k ≡ true = high_last-now f k ∙ ap (λ b. b || (not (low_marked f k) && previous (high_last f) k)) h in
    rw (passed, latest) refl

-- a climb begins without a high mark
pub climb-begins : (f : Flight) (k : ℕ) → IsTrue (climb_begins f k) → f.high k ≡ false → climb_at f k ≡ Initial
climb-begins f k begins h =
    let passed : climbed f k ≡ false = climbed-here f k begins ∙ h in
    ap (λ b. climb_of b (high_last f k)) passed

-- the climb goes on without a high mark
climb-on : (f : Flight) (k : ℕ) → IsTrue (airborne f k) → f.high (suc k) ≡ false → (f.low (suc k) && f.tp (suc k)) ≡ false → climb_at f (suc k) ≡ climb_of (climbed f k) (not (f.low (suc k)) && high_last f k)
unfolding previous
climb-on f k before h marks =
    let on : climb_begins f (suc k) ≡ false =
    begins-now f (suc k) ∙ none-begins (airborne f (suc k)) (airborne f k) (f.low (suc k)) (f.high (suc k)) (f.tp (suc k)) before marks in
    let passed : climbed f (suc k) ≡ climbed f k = climbed-on f k on ∙ ap (λ b. b || climbed f k) h in
    rw (passed, latest-on f k h) refl

-- no mark
pub climb-unmarked : (f : Flight) (k : ℕ) → IsTrue (airborne f k) → f.high (suc k) ≡ false → f.low (suc k) ≡ false → climb_at f (suc k) ≡ climb_at f k
climb-unmarked f k before h l =
    climb-on f k before h (ap (λ b. b && f.tp (suc k)) l) ∙ ap (λ b. climb_of (climbed f k) (not b && high_last f k)) l

-- the climb after a low mark
abbrev pub lowered : Climb → Climb
lowered Initial = Initial
lowered Above = Below
lowered Below = Below

pub lowered-of : (passed latest : Bool) → climb_of passed false ≡ lowered (climb_of passed latest)
lowered-of false latest = refl
lowered-of true true = refl
lowered-of true false = refl

-- a low mark
pub climb-low : (f : Flight) (k : ℕ) → IsTrue (airborne f k) → f.high (suc k) ≡ false → f.low (suc k) ≡ true → f.tp (suc k) ≡ false → climb_at f (suc k) ≡ lowered (climb_at f k)
climb-low f k before h l t =
    climb-on f k before h (and_right (f.low (suc k)) (f.tp (suc k)) t)
    ∙ ap (λ b. climb_of (climbed f k) (not b && high_last f k)) l
    ∙ lowered-of (climbed f k) (high_last f k)
