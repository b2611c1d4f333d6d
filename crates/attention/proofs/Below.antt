-- Looks at the numbers below n: tests that agree there find the same, and what a first mark is.
use Rattle.std.proofs.Common.{◌≡◌, ℕ, zero, suc, ◌<◌, ◌≤◌, Bool, true, false, ◌||◌, ◌∷◌, [], nat_lt, inl, inr, Some, None, refl, sym, ◌∙◌, ap, arith}
use Rattle.std.specs.Prelude.{find, filter, is_some}
use Rattle.std.specs.List.{list_any}
use Rattle.std.specs.Option.{option_or}
use Rattle.std.proofs.lemmas.List.Folds.{find-append, list_any-append}
use Rattle.std.proofs.lemmas.List.Elements.{filter-append}
use Rattle.std.proofs.lemmas.Bool.{cases_lt, cases_eq, lt-ltb, le-ltb}
use Rattle.std.proofs.Math.Bool.{or-false}
use Rattle.ecam_spec.specs.Places.{below}
use Rattle.attention.proofs.Passing.{find-none, is_some-find}

module _ (p q : ℕ → Bool) where
  pub find-below : (n : ℕ) → ((i : ℕ) → i < n → p i ≡ q i) → find p (below n) ≡ find q (below n)
  unfolding below
  find-below zero same = refl
  find-below (suc n) same =
      find-append p (below n) (n ∷ [])
      ∙ rw (find-below n (λ i h. same i (omega arith)), same n (omega arith)) refl
      ∙ sym (find-append q (below n) (n ∷ []))

  pub any-below : (n : ℕ) → ((i : ℕ) → i < n → p i ≡ q i) → list_any p (below n) ≡ list_any q (below n)
  any-below n same = sym (is_some-find p (below n)) ∙ ap is_some (find-below n same) ∙ is_some-find q (below n)

  pub filter-below : (n : ℕ) → ((i : ℕ) → i < n → p i ≡ q i) → filter p (below n) ≡ filter q (below n)
  unfolding below
  filter-below zero same = refl
  filter-below (suc n) same =
      filter-append p (below n) (n ∷ [])
      ∙ rw (filter-below n (λ i h. same i (omega arith)), same n (omega arith)) refl
      ∙ sym (filter-append q (below n) (n ∷ []))

module _ (p : ℕ → Bool) where
  pub none-below : (n : ℕ) → ((i : ℕ) → i < n → p i ≡ false) → find p (below n) ≡ None
  none-below n none = find-below p (λ i. false) n none ∙ find-none (λ i. false) (λ i. refl) (below n)

  pub first-below : (n r : ℕ) → r < n → p r ≡ true → ((i : ℕ) → i < r → p i ≡ false) → find p (below n) ≡ Some r
  unfolding below
  first-below zero r within is none = absurd (omega arith)
  first-below (suc n) r within is none =
      find-append p (below n) (n ∷ [])
      ∙ elim (cases_lt r n) [
        | inl low ↦ ap (λ o. option_or o (find p (n ∷ []))) (first-below n r low is none)
        | inr high ↦
            let last : r ≡ n = omega arith in
            let here : p n ≡ true = sym (ap p last) ∙ is in
            rw (none-below n (λ i h. none i (omega arith)), here) (ap Some (sym last))
      ]

  -- a test that passes one number at most
  pub any-one : (n i : ℕ) → i < n → ((j : ℕ) → (j ≡ i → ⊥) → p j ≡ false) → list_any p (below n) ≡ p i
  any-one n i within apart = elim (p i) as (λ b. p i ≡ b → list_any p (below n) ≡ b) [
    | true ↦ λ e. sym (is_some-find p (below n)) ∙ ap is_some (first-below n i within e (λ j h. apart j (λ s. absurd (let x : ⊥ = omega arith in x))))
    | false ↦ λ e.
        sym (is_some-find p (below n)) ∙ ap is_some (none-below n (λ j h. nowhere j e))
  ] refl where
    nowhere : (j : ℕ) → p i ≡ false → p j ≡ false
    nowhere j e = elim (cases_eq j i) [ inl s ↦ ap p s ∙ e | inr other ↦ apart j other ]

  -- one more number that isn't passed
  pub any-more : (n : ℕ) → list_any p (below (suc n)) ≡ (list_any p (below n) || p n)
  unfolding below
  any-more n = list_any-append p (below n) (n ∷ []) ∙ ap (λ b. list_any p (below n) || b) (or-false (p n))

  pub any-skip : (n m : ℕ) → n ≤ m → ((i : ℕ) → n ≤ i → i < m → p i ≡ false) → list_any p (below m) ≡ list_any p (below n)
  any-skip n zero order none = let e : n ≡ zero = omega arith in ap (λ j. list_any p (below j)) (sym e)
  any-skip n (suc m) order none = elim (cases_lt n (suc m)) [
    | inl low ↦
        any-more m
        ∙ rw (none m (omega arith) (omega arith)) (or-false (list_any p (below m)))
        ∙ any-skip n m (omega arith) (λ i from h. none i from (omega arith))
    | inr high ↦ let e : n ≡ suc m = omega arith in ap (λ j. list_any p (below j)) (sym e)
  ]

-- r is the first number that passes, or it is n
module _ (p : ℕ → Bool) (n r : ℕ) (most : r ≤ n) (here : r < n → p r ≡ true) (none : (i : ℕ) → 0 ≤ i → i < r → p i ≡ false) where
  pub found-low : r < n → find p (below n) ≡ Some r
  found-low low = first-below p n r low (here low) (λ i h. none i (omega arith) h)

  pub found-none : n ≤ r → find p (below n) ≡ None
  found-none past = none-below p n (λ i h. none i (omega arith) (omega arith))

  pub any-found : nat_lt r n ≡ list_any p (below n)
  any-found = elim (cases_lt r n) [
    | inl low ↦ lt-ltb r n low ∙ sym (ap is_some (found-low low)) ∙ is_some-find p (below n)
    | inr past ↦ le-ltb r n past ∙ sym (ap is_some (found-none past)) ∙ is_some-find p (below n)
  ]
