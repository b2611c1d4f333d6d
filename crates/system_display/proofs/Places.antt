-- The first place that passes, as a loop looks for it.
use Rattle.std.proofs.Common.{◌≡◌, ℕ, zero, suc, ◌<◌, Bool, true, false, Some, None, inl, inr, refl, ap, ◌∙◌, sym, arith}
use Rattle.std.proofs.lemmas.Bool.{cases_lt}
use Rattle.std.specs.Option.{option_or}
use Rattle.ecam_spec.specs.Places.{first_place}

pub none-before : (p : ℕ → Bool) → first_place p 0 ≡ None
unfolding first_place
none-before p = refl

-- none so far, and not here
pub none-more : (p : ℕ → Bool) (n : ℕ) → first_place p n ≡ None → p n ≡ false → first_place p (suc n) ≡ None
unfolding first_place
none-more p n none off =
    ap (λ o. option_or o (elim (p n) [ true ↦ Some n | false ↦ None ])) none ∙ ap (λ b. elim b [ true ↦ Some n | false ↦ None ]) off

-- none anywhere
pub none-below : (p : ℕ → Bool) (n : ℕ) → ((i : ℕ) → p i ≡ false) → first_place p n ≡ None
none-below p zero off = none-before p
none-below p (suc n) off = none-more p n (none-below p n off) (off n)

-- none so far, but here: it is the first of all
pub first-here : (p : ℕ → Bool) (i n : ℕ) → first_place p i ≡ None → p i ≡ true → i < n → first_place p n ≡ Some i
unfolding first_place
first-here p i zero none on within = absurd (let w : ⊥ = omega arith in w)
first-here p i (suc n) none on within =
    elim (cases_lt i n) [
      | inl before ↦ ap (λ o. option_or o (elim (p n) [ true ↦ Some n | false ↦ None ])) (first-here p i n none on before)
      | inr last ↦
          let here : i ≡ n = omega arith in
          ap (λ o. option_or o (elim (p n) [ true ↦ Some n | false ↦ None ])) (ap (first_place p) (sym here) ∙ none)
          ∙ ap (λ b. elim b [ true ↦ Some n | false ↦ None ]) (ap p (sym here) ∙ on)
          ∙ ap Some (sym here)
    ]
