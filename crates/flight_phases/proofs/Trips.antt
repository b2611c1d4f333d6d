-- The step of the trip bit.
use Rattle.std.proofs.Common.{◌≡◌, ℕ, suc, Bool, true, false, not, ◌&&◌, ◌||◌, refl, sym, ◌∙◌, ap, IsTrue}
use Rattle.std.proofs.Math.Bool.{or-true, or-false}
use Rattle.ecam_spec.specs.Past.{previous}
use Rattle.ecam_spec.specs.Phase.{Flight, parked, running, airborne, trip}
use Rattle.ecam_spec.proofs.PastSteps.{since-now}

-- the trip bit in a moment, by the inputs of the moment and the trip bit in the one before
abbrev trip_of : Bool → Bool → Bool → Bool → Bool
trip_of gnd run fast before = (not gnd || ((gnd && run) && fast)) || (not (gnd && not run) && before)

trip-now : (f : Flight) (k : ℕ) → trip f k ≡ trip_of (f.gnd k) (f.run k) (f.fast k) (previous (trip f) k)
unfolding trip
trip-now f k = since-now (λ i. airborne f i || (running f i && f.fast i)) (λ i. not (parked f i)) k

parked-resets : (gnd run fast before : Bool) → (gnd && not run) ≡ true → trip_of gnd run fast before ≡ false
parked-resets true false fast before h = refl
parked-resets true true fast before h = cc
parked-resets false run fast before h = cc

pub trip-parked : (f : Flight) (k : ℕ) → IsTrue (parked f k) → trip f k ≡ false
trip-parked f k h = trip-now f k ∙ parked-resets (f.gnd k) (f.run k) (f.fast k) (previous (trip f) k) h

pub trip-airborne : (f : Flight) (k : ℕ) → IsTrue (airborne f k) → trip f k ≡ true
trip-airborne f k h = trip-now f k ∙ ap (λ b. (b || (running f k && f.fast k)) || (not (parked f k) && previous (trip f) k)) h

pub trip-running : (f : Flight) (k : ℕ) → f.gnd k ≡ true → f.run k ≡ true → trip f k ≡ (f.fast k || previous (trip f) k)
trip-running f k on running = trip-now f k ∙ ap (λ g. trip_of g (f.run k) (f.fast k) (previous (trip f) k)) on ∙ ap (λ r. trip_of true r (f.fast k) (previous (trip f) k)) running

-- an engine runs on ground, and the trip bit in the moment before is known
pub trip-runs : (f : Flight) (k : ℕ) (bit : Bool) → bit ≡ trip f k → IsTrue (f.gnd (suc k)) → IsTrue (f.run (suc k)) → trip f (suc k) ≡ (f.fast (suc k) || bit)
unfolding previous
trip-runs f k bit is on running = trip-running f (suc k) on running ∙ ap (λ b. f.fast (suc k) || b) (sym is)

-- it was parked
pub trip-restart : (f : Flight) (k : ℕ) → IsTrue (parked f k) → IsTrue (f.gnd (suc k)) → IsTrue (f.run (suc k)) → trip f (suc k) ≡ f.fast (suc k)
trip-restart f k before on running = trip-runs f k false (sym (trip-parked f k before)) on running ∙ or-false (f.fast (suc k))

-- it was in the air
pub trip-landed : (f : Flight) (k : ℕ) → IsTrue (airborne f k) → IsTrue (f.gnd (suc k)) → IsTrue (f.run (suc k)) → trip f (suc k) ≡ true
trip-landed f k before on running = trip-runs f k true (sym (trip-airborne f k before)) on running ∙ or-true (f.fast (suc k))

-- the first moment is on ground with an engine running
pub trip-first : (f : Flight) → IsTrue (f.gnd 0) → IsTrue (f.run 0) → trip f 0 ≡ f.fast 0
unfolding previous
trip-first f on running = trip-running f 0 on running ∙ or-false (f.fast 0)
