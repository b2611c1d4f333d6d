-- The chains of places of the sources that listen to a word, from the last down.
use Rattle.std.proofs.Common.{◌≡◌, ℕ, zero, suc, ◌<◌, Bool, true, false, ltb, Option, Some, None, cond, sym, ap, ◌∙◌, arith, inl, inr}
use Rattle.std.specs.Prelude.{IfSome}
use Rattle.std.proofs.lemmas.Bool.{cases_Bool, cases_lt}
use Rattle.std.proofs.lemmas.Bool.Decides.{nat_tests}
use Rattle.book_model.specs.SourcePlaces.{last_below}
use Rattle.book_model.proofs.LastBelow.{last_below-suc, last_below-zero}

-- the number isn't among those that are still to come: all from the next one down
abbrev pub is_past : Option ℕ → ℕ → Bool
is_past None q = true
is_past (Some h) q = ltb h q

-- none that is past passes
pub past_fails : (p : ℕ → Bool) (n q : ℕ) → q < n → is_past (last_below p n) q ≡ true → p q ≡ false
past_fails p zero q below past = absurd (omega arith)
past_fails p (suc n) q below past = elim (cases_Bool (p n)) [
  | inl so ↦
      let here : last_below p (suc n) ≡ Some n = last_below-suc p n ∙ ap (λ b. cond b (Some n) (last_below p n)) so in
      let after : ltb n q ≡ true = sym (ap (λ o. is_past o q) here) ∙ past in
      absurd (grind (arith, nat_tests))
  | inr not_so ↦
      let earlier : last_below p (suc n) ≡ last_below p n = last_below-suc p n ∙ ap (λ b. cond b (Some n) (last_below p n)) not_so in
      elim (cases_lt q n) [
        | inl less ↦ past_fails p n q less (sym (ap (λ o. is_past o q) earlier) ∙ past)
        | inr same ↦ let at : q ≡ n = omega arith in ap p at ∙ not_so
      ]
]

-- the one that is found passes, and is below n
pub found_passes : (p : ℕ → Bool) (n : ℕ) → IfSome (last_below p n) (λ h. (h < n) × (p h ≡ true))
found_passes p zero = rw last_below-zero tt
found_passes p (suc n) = rw last_below-suc (elim (cases_Bool (p n)) [
  | inl so ↦ rw so (omega arith, so)
  | inr not_so ↦ rw not_so (weaker (last_below p n) (found_passes p n))
]) where
  weaker : (o : Option ℕ) → IfSome o (λ h. (h < n) × (p h ≡ true)) → IfSome o (λ h. (h < suc n) × (p h ≡ true))
  weaker None h = h
  weaker (Some x) h = (omega arith, h.1)
