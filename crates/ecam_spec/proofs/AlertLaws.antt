-- What follows for an alert's life from its definitions.
use Rattle.std.proofs.Common.{◌≡◌, ℕ, zero, suc, ◌≤◌, Bool, true, false, not, ◌&&◌, ◌||◌, refl, ◌∙◌, ap}
use Rattle.std.proofs.lemmas.Bool.{and_parts}
use Rattle.ecam_spec.specs.Past.{Signal, since}
use Rattle.ecam_spec.specs.Term.{latch}
use Rattle.ecam_spec.specs.Alert.{present, active}
use Rattle.ecam_spec.proofs.PastSteps.{since-zero, since-suc}
use Rattle.ecam_spec.proofs.PastAgree.{since-below}
use Rattle.ecam_spec.proofs.PastLaws.{since-implies}

free-start : (p i : Bool) → i ≡ false → (p && not i) ≡ p
free-start true i e = ap not e
free-start false i e = refl

free-step : (p i s : Bool) → i ≡ false → ((p && not i) || (p && s)) ≡ p
free-step true i s e = rw e refl
free-step false i s e = refl

pub active_uninhibited : (inhibited present : Signal) (k : ℕ) → inhibited k ≡ false → active inhibited present k ≡ present k
unfolding active
active_uninhibited inhibited present zero free =
    since-zero (λ j. present j && not (inhibited j)) present ∙ free-start (present 0) (inhibited 0) free
active_uninhibited inhibited present (suc k) free =
    since-suc (λ j. present j && not (inhibited j)) present k
    ∙ free-step (present (suc k)) (inhibited (suc k)) (since (λ j. present j && not (inhibited j)) present k) free

-- one more moment: an active alert stays while it is present, and one that is present becomes active unless it
-- is inhibited
wait-step : (p i s : Bool) → ((p && not i) || (p && s)) ≡ (p && (not i || s))
wait-step true i s = refl
wait-step false i s = refl

pub active_step : (inhibited present : Signal) (k : ℕ) → active inhibited present (suc k) ≡ (present (suc k) && (not (inhibited (suc k)) || active inhibited present k))
unfolding active
active_step inhibited present k =
    since-suc (λ j. present j && not (inhibited j)) present k
    ∙ wait-step (present (suc k)) (inhibited (suc k)) (since (λ j. present j && not (inhibited j)) present k)

pub active_present : (inhibited present : Signal) (k : ℕ) → active inhibited present k ≡ true → present k ≡ true
unfolding active
active_present inhibited present k h =
    since-implies (λ j. present j && not (inhibited j)) present (present k) k
    (λ e. (and_parts (present k) (not (inhibited k)) e).0) (λ e. e) h

-- where the two never meet, the reset of the same moment needn't be asked
apart-step : (s r : Bool) → (s && r) ≡ false → (s && not r) ≡ s
apart-step true r e = ap not e
apart-step false r e = refl

pub latch_apart : (s r : Signal) (k : ℕ) → ((i : ℕ) → i ≤ k → (s i && r i) ≡ false) → latch s r k ≡ since s (λ i. not (r i)) k
latch_apart s r k apart =
    since-below (λ i. s i && not (r i)) s (λ i. not (r i)) (λ i. not (r i)) k
    (λ i h. apart-step (s i) (r i) (apart i h)) (λ i h. refl)

latch-step : (s r l : Bool) → ((s && not r) || (not r && l)) ≡ (not r && (s || l))
latch-step true true l = refl
latch-step true false l = refl
latch-step false true l = refl
latch-step false false l = refl

pub latch_step : (s r : Signal) (k : ℕ) → latch s r (suc k) ≡ (not (r (suc k)) && (s (suc k) || latch s r k))
latch_step s r k =
    since-suc (λ i. s i && not (r i)) (λ i. not (r i)) k
    ∙ latch-step (s (suc k)) (r (suc k)) (since (λ i. s i && not (r i)) (λ i. not (r i)) k)
