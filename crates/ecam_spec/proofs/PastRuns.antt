-- The words that a program keeps of the past as moments: since when p has been so, and when p last was since which q
-- held. The step of each, and what it tells.
use Rattle.std.proofs.Common.{◌≡◌, ℕ, zero, suc, ◌+◌, ◌-◌, ◌≤◌, Bool, true, false, ◌&&◌, Some, None, cond, leb, refl, sym, ◌∙◌, ap, arith}
use Rattle.std.specs.Option.{option_or, option_map_or}
use Rattle.std.proofs.lemmas.Bool.Decides.{nat_tests}
use Rattle.std.proofs.Math.Bool.{and-true, and-false}
use Rattle.ecam_spec.specs.Past.{Signal, previous, last, start_of, previously, running_since, last_since, historically_from, historically_within}
use Rattle.ecam_spec.proofs.PastSteps.{last-zero, last-suc, last-none, historically_from-suc, historically_from-here, start_of-on, start_of-rise, start_of-off, start_of-on-le}
use Rattle.ecam_spec.proofs.PastAgree.{last-below}
use Rattle.ecam_spec.proofs.PastMoments.{historically_within-start}

-- ---- a stretch

pub running_since-zero : (p : Signal) → running_since p 0 ≡ None
unfolding running_since
running_since-zero p = refl

-- where it is so now, its stretch is the one that goes up to now
pub running_since-start : (p : Signal) (k : ℕ) → running_since p (suc k) ≡ cond (p k) (Some (start_of p k)) None
unfolding running_since
running_since-start p k = elim (p k) as (λ b. elim b [ true ↦ Some (start_of p k) | false ↦ None ] ≡ cond b (Some (start_of p k)) None) [ true ↦ refl | false ↦ refl ]

goes_on : (p : Signal) (j : ℕ) (b : Bool) → p j ≡ b → p (suc j) ≡ true → Some (start_of p (suc j)) ≡ option_or (running_since p (suc j)) (Some (suc j))
unfolding previous
goes_on p j true e on =
    ap Some (start_of-on p j on)
    ∙ sym (ap (λ o. option_or o (Some (suc j))) (running_since-start p j ∙ ap (λ b. cond b (Some (start_of p j)) None) e))
goes_on p j false e on =
    ap Some (start_of-rise p (suc j) on e)
    ∙ sym (ap (λ o. option_or o (Some (suc j))) (running_since-start p j ∙ ap (λ b. cond b (Some (start_of p j)) None) e))

running-on : (p : Signal) (k : ℕ) → p k ≡ true → Some (start_of p k) ≡ option_or (running_since p k) (Some k)
unfolding previous
running-on p zero on = ap Some (start_of-rise p 0 on refl) ∙ sym (ap (λ o. option_or o (Some 0)) (running_since-zero p))
running-on p (suc j) on = goes_on p j (p j) refl on

running-step : (p : Signal) (k : ℕ) (b : Bool) → p k ≡ b → cond b (Some (start_of p k)) None ≡ cond b (option_or (running_since p k) (Some k)) None
running-step p k true on = running-on p k on
running-step p k false off = refl

-- one more moment: the stretch goes on, or begins, or is broken off
pub running_since-suc : (p : Signal) (k : ℕ) → running_since p (suc k) ≡ cond (p k) (option_or (running_since p k) (Some k)) None
running_since-suc p k = running_since-start p k ∙ running-step p k (p k) refl

shifted : (n k s : ℕ) → s ≤ k → leb (s + n) k ≡ leb n (k - s)
shifted n k s within = grind (arith, nat_tests)

beyond : (n k : ℕ) → leb (suc k + n) k ≡ false
beyond n k = grind (arith, nat_tests)

lasted : (n : ℕ) (p : Signal) (k : ℕ) (b : Bool) → p k ≡ b → leb (start_of p k + n) k ≡ option_map_or (λ s. leb n (k - s)) (cond b (Some (start_of p k)) None) false
lasted n p k true on = shifted n k (start_of p k) (start_of-on-le p k on)
lasted n p k false off = ap (λ s. leb (s + n) k) (start_of-off p k off) ∙ beyond n k

-- p now and in each of n moments before, where its stretch began n moments ago or earlier
pub historically_within-running : (n : ℕ) (p : Signal) (k : ℕ) → historically_within n p k ≡ option_map_or (λ s. leb n (k - s)) (running_since p (suc k)) false
historically_within-running n p k =
    historically_within-start n p k
    ∙ lasted n p k (p k) refl
    ∙ ap (λ o. option_map_or (λ s. leb n (k - s)) o false) (sym (running_since-start p k))

-- ---- the last moment with p since which q holds

module _ (p q : Signal) where
  -- q doesn't hold now, so there is no such moment
  pub last_since-off : (k : ℕ) → q k ≡ false → last_since p q k ≡ None
  unfolding last_since
  last_since-off zero off =
      last-none (λ j. p j && historically_from j q 0) 0
      (λ i h. let first : i ≡ 0 = omega arith in ap (λ j. p i && historically_from j q 0) first ∙ ap (λ b. p i && b) (historically_from-here q 0 ∙ off) ∙ and-false (p i))
  last_since-off (suc k) off =
      last-none (λ j. p j && historically_from j q (suc k)) (suc k)
      (λ i h. ap (λ b. p i && b) (historically_from-suc i q k h ∙ ap (λ b. b && historically_from i q k) off) ∙ and-false (p i))

  last_since-on : (k : ℕ) → q k ≡ true → last_since p q k ≡ cond (p k) (Some k) (previously (last_since p q) k)
  unfolding last_since
  last_since-on zero on =
      last-zero (λ j. p j && historically_from j q 0) ∙ ap (λ b. cond (p 0 && b) (Some 0) None) (historically_from-here q 0 ∙ on) ∙ ap (λ b. cond b (Some 0) None) (and-true (p 0))
  last_since-on (suc k) on =
      last-suc (λ j. p j && historically_from j q (suc k)) k
      ∙ ap (λ b. cond (p (suc k) && b) (Some (suc k)) (last (λ j. p j && historically_from j q (suc k)) k)) (historically_from-here q (suc k) ∙ on)
      ∙ ap (λ b. cond b (Some (suc k)) (last (λ j. p j && historically_from j q (suc k)) k)) (and-true (p (suc k)))
      ∙ ap (cond (p (suc k)) (Some (suc k)))
      (last-below (λ j. p j && historically_from j q (suc k)) (λ j. p j && historically_from j q k) k
      (λ i h. ap (λ b. p i && b) (historically_from-suc i q k (omega arith) ∙ ap (λ b. b && historically_from i q k) on)))

  last_since-step : (k : ℕ) (b : Bool) → q k ≡ b → last_since p q k ≡ cond b (cond (p k) (Some k) (previously (last_since p q) k)) None
  last_since-step k true on = last_since-on k on
  last_since-step k false off = last_since-off k off

  -- now, by the moment before
  pub last_since-now : (k : ℕ) → last_since p q k ≡ cond (q k) (cond (p k) (Some k) (previously (last_since p q) k)) None
  last_since-now k = last_since-step k (q k) refl
