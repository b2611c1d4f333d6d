-- How many numbers below another are marked, by the ones of the words.
use Rattle.std.proofs.Common.{◌≡◌, ℕ, zero, suc, ◌+◌, ◌-◌, ◌*◌, ◌/◌, ◌%◌, ◌^◌, ◌<◌, ◌≤◌, ◌==◌, min, List, slice_index, refl, sym, ap, ◌∙◌, inl, inr, arith}
use Rattle.std.specs.Prelude.{count_ones}
use Rattle.std.specs.Int.{bit_at, from_bool}
use Rattle.std.specs.Int.Count.{ones-ones}
use Rattle.std.proofs.lemmas.Bool.{cases_lt}
use Rattle.std.proofs.lemmas.Nat.{ones_cat, mod-pow-add, mod_below, pow_pos, shr_high, mod_low}
use Rattle.std.proofs.lemmas.Nat.Bits.{bit_at-lt}
use Rattle.wakes.specs.Marks.{is_marked, marked_below}
use Rattle.wakes.specs.MarkedEnd.{EndsAt}
use Rattle.wakes.proofs.Bits.{marked-at}

one-bit : (b : ℕ) → b < 2 → count_ones b ≡ b
one-bit zero _ = ones-ones 0
one-bit (suc zero) _ = ones-ones 1
one-bit (suc (suc b)) lt = absurd (omega (arith, lt))

bit-told : (b : ℕ) → b < 2 → from_bool (b == 1) ≡ b
bit-told zero _ = refl
bit-told (suc zero) _ = refl
bit-told (suc (suc b)) lt = absurd (omega (arith, lt))

-- the lowest bits, moved up to the end of a word
pub ones-low : (word m : ℕ) → m ≤ 64 → count_ones (word * 2 ^ (64 - m) % 2 ^ 64) ≡ count_ones (word % 2 ^ m)
ones-low word m le =
    let k = 64 - m in
    let parts : 64 ≡ m + k = omega arith in
    let none : word * 2 ^ k ≡ word * 2 ^ k + 0 = omega arith in
    let low = mod_low word k 0 (pow_pos k) in
    ap (λ n. count_ones (word * 2 ^ k % 2 ^ n)) parts
    ∙ ap (λ x. count_ones (x % 2 ^ (m + k))) none
    ∙ ap count_ones (mod-pow-add (word * 2 ^ k + 0) m k)
    ∙ ap (λ x. count_ones (x % 2 ^ m * 2 ^ k + (word * 2 ^ k + 0) % 2 ^ k)) (shr_high word k 0 (pow_pos k))
    ∙ ap (λ r. count_ones (word % 2 ^ m * 2 ^ k + r)) low
    ∙ ones_cat k (word % 2 ^ m) 0 (pow_pos k)
    ∙ omega (arith, one-bit 0 (omega arith))

-- the bits of a word from number n on
module _ (words : List ℕ) (n : ℕ) where
  abbrev bits-on : ℕ
  bits-on = slice_index words (n / 64) / 2 ^ (n % 64)

  pub ones-on : (m : ℕ) → n % 64 + m ≤ 64 → marked_below words (n + m) ≡ marked_below words n + count_ones (bits-on % 2 ^ m)
  unfolding marked_below
  ones-on zero le =
      let same : n + 0 ≡ n = omega arith in
      let none : bits-on % 2 ^ 0 ≡ 0 = omega arith in
      omega (arith, ap (marked_below words) same, ap count_ones none ∙ one-bit 0 (omega arith))
  ones-on (suc m) le =
      let more : n + suc m ≡ suc (n + m) = omega arith in
      let size : suc m ≡ 1 + m = omega arith in
      let mark : from_bool (is_marked words (n + m)) ≡ bit_at bits-on m =
      ap from_bool (marked-at words n (n / 64) (n % 64) _ (omega arith) refl m (omega (arith, le))) ∙ bit-told (bit_at bits-on m) (bit_at-lt bits-on m) in
      let bits : count_ones (bits-on % 2 ^ suc m) ≡ bit_at bits-on m + count_ones (bits-on % 2 ^ m) =
      ap (λ j. count_ones (bits-on % 2 ^ j)) size
      ∙ ap count_ones (mod-pow-add bits-on 1 m)
      ∙ ones_cat m (bit_at bits-on m) (bits-on % 2 ^ m) (mod_below bits-on (2 ^ m) (pow_pos m))
      ∙ ap (λ b. b + count_ones (bits-on % 2 ^ m)) (one-bit (bit_at bits-on m) (bit_at-lt bits-on m)) in
      let sum : marked_below words (n + m) + from_bool (is_marked words (n + m)) ≡ marked_below words n + count_ones (bits-on % 2 ^ suc m) =
      omega (arith, ones-on m (omega (arith, le)), mark, bits) in
      ap (marked_below words) more ∙ sum

-- from the end on none counts
module _ (words : List ℕ) (end : ℕ) (ends : EndsAt words end) where
  past : (n d : ℕ) → end ≤ n → marked_below words (n + d) ≡ marked_below words n
  unfolding marked_below
  past n zero le = let same : n + 0 ≡ n = omega arith in ap (marked_below words) same
  past n (suc d) le =
      let more : n + suc d ≡ suc (n + d) = omega arith in
      let none : from_bool (is_marked words (n + d)) ≡ 0 = ap from_bool (ends.none (n + d) (omega (arith, le))) in
      let sum : marked_below words (n + d) + from_bool (is_marked words (n + d)) ≡ marked_below words n = omega (arith, none, past n d le) in
      ap (marked_below words) more ∙ sum

  pub none-on : (n m : ℕ) → n ≤ m → min end m ≤ n → marked_below words n ≡ marked_below words m
  none-on n m le most = elim (cases_lt end m) [
    | inl lt ↦
        let all : n + (m - n) ≡ m = omega (arith, le) in
        sym (past n (m - n) (omega (arith, lt, most))) ∙ ap (marked_below words) all
    | inr far ↦ ap (marked_below words) (omega (arith, le, most, far))
  ]
