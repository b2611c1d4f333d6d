-- The first place of a byte, as `memchr` tells it.
use Rattle.std.proofs.Common.{◌≡◌, ℕ, List, Option, Some, None, refl, sym, ap, ◌∙◌, inl, inr, arith}
use Rattle.std.specs.Prelude.{◌==◌}
use Rattle.std.specs.List.{position}
use Rattle.std.proofs.lemmas.Bool.{cases_lt}
use Rattle.std.proofs.lemmas.List.Quantifiers.{position-Some}
use Rattle.std.proofs.lemmas.List.Sums.{fails_before_first}
use Rattle.memchr.specs.Find.{IsFirstByte, is_byte}
use Rattle.record_lines.proofs.Forms.{nowhere-len}

pub first-place : (n : ℕ) (xs : List ℕ) (r : Option ℕ) → IsFirstByte (is_byte n) xs r → r ≡ position (λ b. b == n) xs
first-place n xs r first = by r first (position (λ b. b == n) xs) refl where
  by : (r : Option ℕ) → IsFirstByte (is_byte n) xs r → (o : Option ℕ) → position (λ b. b == n) xs ≡ o → r ≡ position (λ b. b == n) xs
  by None nowhere None is = sym is
  by None nowhere (Some m) is =
      let found = position-Some (λ b. b == n) xs m 0 is in
      absurd (nowhere m (omega arith) found.0 found.1)
  by (Some k) (first, passes) None is =
      let fails = fails_before_first (λ b. b == n) xs k 0 (let past = nowhere-len (λ b. b == n) xs is in let high = first.high in omega arith) in
      let never : ⊥ = cc in absurd never
  by (Some k) (first, passes) (Some m) is =
      let found = position-Some (λ b. b == n) xs m 0 is in
      elim (cases_lt k m) [
        | inl before ↦ let fails = found.2 k before in let never : ⊥ = cc in absurd never
        | inr from ↦ elim (cases_lt m k) [
          | inl before ↦ absurd (first.before m (omega arith) before found.1)
          | inr to ↦ let same : k ≡ m = omega arith in ap Some same ∙ sym is
        ]
      ]
