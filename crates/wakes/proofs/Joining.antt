-- The bits of other words are put in.
use Rattle.std.proofs.Common.{◌≡◌, ℕ, ◌/◌, ◌%◌, ◌<◌, ◌≤◌, max, Bool, true, false, ◌||◌, ◌==◌, List, length, slice_index, bit_or, refl, sym, ap, ◌∙◌, inl, inr, zero, suc, arith}
use Rattle.std.proofs.lemmas.Bool.{cases_lt}
use Rattle.std.proofs.lemmas.List.{get_or_past}
use Rattle.std.proofs.lemmas.Nat.Bits.{bit_at_or, bit_at-lt}
use Rattle.std.specs.Int.{bit_at}
use Rattle.wakes.specs.Marks.{is_marked}
use Rattle.wakes.proofs.Bits.{none_in}

max-one : (a b : ℕ) → a < 2 → b < 2 → (max a b == 1) ≡ (a == 1 || b == 1)
max-one zero zero _ _ = refl
max-one zero (suc zero) _ _ = refl
max-one (suc zero) zero _ _ = refl
max-one (suc zero) (suc zero) _ _ = refl
max-one (suc (suc a)) b l _ = absurd (omega (arith, l))
max-one zero (suc (suc b)) _ l = absurd (omega (arith, l))
max-one (suc zero) (suc (suc b)) _ l = absurd (omega (arith, l))

or-false : (b : Bool) → b ≡ (b || false)
or-false true = refl
or-false false = refl

pub joins : (words others new : List ℕ) → ((p : ℕ) → p < length others → slice_index new p ≡ bit_or (slice_index words p) (slice_index others p))
    → ((p : ℕ) → length others ≤ p → slice_index new p ≡ slice_index words p) → (j : ℕ) → is_marked new j ≡ (is_marked words j || is_marked others j)
joins words others new joined left j = elim (cases_lt (j / 64) (length others)) [
  | inl lt ↦
      ap (λ w. bit_at w (j % 64) == 1) (joined (j / 64) lt) ∙ ap (λ n. n == 1) (bit_at_or (slice_index words (j / 64)) (slice_index others (j / 64)) (j % 64))
      ∙ max-one _ _ (bit_at-lt (slice_index words (j / 64)) (j % 64)) (bit_at-lt (slice_index others (j / 64)) (j % 64))
  | inr le ↦
      ap (λ w. bit_at w (j % 64) == 1) (left (j / 64) le) ∙ or-false (is_marked words j) ∙ ap (λ b. is_marked words j || b) (sym (none_in others j (get_or_past others (j / 64) 0 le)))
]
