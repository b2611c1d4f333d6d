-- The moments that are kept of RCL: one moment on, and what they tell.
use Rattle.std.proofs.Common.{◌≡◌, ℕ, suc, ◌+◌, ◌-◌, Bool, false, Option, Some, None, cond, ltb, leb, refl, sym, ◌∙◌, ap, arith}
use Rattle.std.specs.Prelude.{is_none}
use Rattle.std.specs.Option.{option_or, option_map_or}
use Rattle.std.proofs.lemmas.Bool.Decides.{nat_tests}
use Rattle.ecam_spec.specs.Past.{Signal, previously, running_since, last_since}
use Rattle.ecam_spec.specs.Crew.{Cockpit, shows_nothing, normal}
use Rattle.ecam_spec.proofs.PastRuns.{running_since-suc, last_since-now}
use Rattle.ecam_spec.proofs.CrewSteps.{normal-last}

-- a stretch one moment on
pub running-now : (p : Signal) (k : ℕ) (holds : Bool) → holds ≡ p k → running_since p (suc k) ≡ cond holds (option_or (running_since p k) (Some k)) None
running-now p k holds e = running_since-suc p k ∙ ap (λ b. cond b (option_or (running_since p k) (Some k)) None) (sym e)

-- the last moment with p since which q holds, one moment on
pub last-now : (p q : Signal) (k : ℕ) (holds : Bool) → holds ≡ q k → previously (last_since p q) (suc k) ≡ cond holds (cond (p k) (Some k) (previously (last_since p q) k)) None
last-now p q k holds e = last_since-now p q k ∙ ap (λ b. cond b (cond (p k) (Some k) (previously (last_since p q) k)) None) (sym e)

lately : (k j : ℕ) → ltb k (j + 29 + 1) ≡ leb (suc k - j) 30
lately k j = grind (arith, nat_tests)

each-lately : (k : ℕ) (o : Option ℕ) → option_map_or (λ j. ltb k (j + 29 + 1)) o false ≡ option_map_or (λ j. leb (suc k - j) 30) o false
each-lately k None = refl
each-lately k (Some j) = lately k j

-- NORMAL stands for thirty moments from the last press of RCL on since which nothing was shown
pub normal-press : (c : Cockpit) (k : ℕ) → normal c k ≡ option_map_or (λ j. leb (suc k - j) 30) (last_since c.rcl (shows_nothing c) k) false
normal-press c k = normal-last c k ∙ each-lately k (last_since c.rcl (shows_nothing c) k)

-- the press stays where none comes, and where it would be forgotten there is none
pub press-settled : (p q : Signal) (k : ℕ) (first was : Option ℕ) → was ≡ cond (is_none first) was None → false ≡ p k → is_none first ≡ q k → was ≡ previously (last_since p q) k → was ≡ previously (last_since p q) (suc k)
press-settled p q k first was settled pressed quiet kept =
    settled
    ∙ ap (λ o. cond (is_none first) o None) (kept ∙ ap (λ b. cond b (Some k) (previously (last_since p q) k)) pressed)
    ∙ sym (last-now p q k (is_none first) quiet)
