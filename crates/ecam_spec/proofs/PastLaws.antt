-- What follows over a stretch of moments: what keeps `since`, what breaks it, and what it says now.
use Rattle.std.proofs.Common.{◌≡◌, ℕ, zero, suc, ◌<◌, ◌≤◌, Bool, true, false, ◌&&◌, ◌||◌, inl, inr, refl, sym, ◌∙◌, ap, arith, ltb, leb, ◌-◌}
use Rattle.std.proofs.Math.Nat.{le-suc_iff}
use Rattle.std.proofs.lemmas.Bool.{le-ltb, and_parts}
use Rattle.std.proofs.Math.Bool.{and-false, or-true}
use Rattle.ecam_spec.specs.Past.{Signal, historically, historically_from, historically_within, since}
use Rattle.ecam_spec.proofs.PastSteps.{since-zero, since-suc}

-- q in one more moment keeps it
keep-step : (p q s : Bool) → q ≡ true → s ≡ true → (p || (q && s)) ≡ true
keep-step p q s hq hs = rw (hq, hs) (or-true p)

-- while q holds it is kept
pub since-kept : (p q : Signal) (j k : ℕ) → j ≤ k → since p q j ≡ true → ((i : ℕ) → j < i → i ≤ k → q i ≡ true) → since p q k ≡ true
since-kept p q j zero within begun kept = let e : j ≡ 0 = omega arith in rw e at begun
since-kept p q j (suc k) within begun kept =
    elim (le-suc_iff.0 within) [
      | inl h ↦
          let earlier : since p q k ≡ true = since-kept p q j k h begun (λ i a b. kept i a (omega arith)) in
          let now : q (suc k) ≡ true = kept (suc k) (omega arith) (omega arith) in
          since-suc p q k ∙ keep-step (p (suc k)) (q (suc k)) (since p q k) now earlier
      | inr e ↦ rw e at begun
    ]

-- p begins it now
pub since-begun : (p q : Signal) (k : ℕ) → p k ≡ true → since p q k ≡ true
since-begun p q zero h = since-zero p q ∙ h
since-begun p q (suc k) h = since-suc p q k ∙ ap (λ b. b || (q (suc k) && since p q k)) h

-- without p and q it isn't so
pub since-broken : (p q : Signal) (k : ℕ) → p k ≡ false → q k ≡ false → since p q k ≡ false
since-broken p q zero a b = since-zero p q ∙ a
since-broken p q (suc k) a b = since-suc p q k ∙ ap (λ c. c || (q (suc k) && since p q k)) a ∙ ap (λ c. c && since p q k) b

none-step : (p q s : Bool) → p ≡ false → s ≡ false → (p || (q && s)) ≡ false
none-step p q s hp hs = rw (hp, hs) (and-false q)

-- and until p comes again it stays so
pub since-none : (p q : Signal) (j k : ℕ) → j ≤ k → since p q j ≡ false → ((i : ℕ) → j < i → i ≤ k → p i ≡ false) → since p q k ≡ false
since-none p q j zero within over none = let e : j ≡ 0 = omega arith in rw e at over
since-none p q j (suc k) within over none =
    elim (le-suc_iff.0 within) [
      | inl h ↦
          let earlier : since p q k ≡ false = since-none p q j k h over (λ i a b. none i a (omega arith)) in
          let now : p (suc k) ≡ false = none (suc k) (omega arith) (omega arith) in
          since-suc p q k ∙ none-step (p (suc k)) (q (suc k)) (since p q k) now earlier
      | inr e ↦ rw e at over
    ]

-- what p and q both imply, `since` implies
either-step : (p q s b : Bool) → (p ≡ true → b ≡ true) → (q ≡ true → b ≡ true) → (p || (q && s)) ≡ true → b ≡ true
either-step true q s b f g h = f refl
either-step false true s b f g h = g refl
either-step false false s b f g h = cc

pub since-implies : (p q : Signal) (b : Bool) (k : ℕ) → (p k ≡ true → b ≡ true) → (q k ≡ true → b ≡ true) → since p q k ≡ true → b ≡ true
since-implies p q b zero f g h = f (sym (since-zero p q) ∙ h)
since-implies p q b (suc k) f g h = either-step (p (suc k)) (q (suc k)) (since p q k) b f g (sym (since-suc p q k) ∙ h)

-- in each moment up to now, so now
pub historically-now : (p : Signal) (k : ℕ) → historically p k ≡ true → p k ≡ true
unfolding historically
historically-now p zero h = h
historically-now p (suc k) h = (and_parts (p (suc k)) (historically p k) h).0

or-second : (a b : Bool) → a ≡ false → (a || b) ≡ true → b ≡ true
or-second true b e h = cc
or-second false b e h = h

-- now and in each of n moments before, so now
pub historically_within-now : (n : ℕ) (p : Signal) (k : ℕ) → historically_within n p k ≡ true → p k ≡ true
unfolding historically_within historically_from
historically_within-now n p k h =
    or-second (ltb k (k - n)) (p k) (le-ltb k (k - n) (omega arith))
    (historically-now (λ i. ltb i (k - n) || p i) k ((and_parts (leb n k) _ h).1))
