-- One bit of some words is set or cleared, and the first is found.
use Rattle.std.proofs.Common.{◌≡◌, ◌≢◌, ℕ, ◌+◌, ◌-◌, ◌*◌, ◌/◌, ◌%◌, ◌^◌, ◌<◌, ◌≤◌, false, not, ◌&&◌, ◌||◌, ◌==◌, Bool, true, List, length, get_or, set, slice_index, bit_or, bit_and, sym, ap, subst, ◌∙◌, inl, inr, arith}
use Rattle.std.proofs.lemmas.List.{get_or-set_same, get_or-set_other, get_or_default, length-set, set-get_or}
use Rattle.std.proofs.Math.Bool.{and-false, and-true}
use Rattle.std.proofs.lemmas.Bool.{cases_eq, cases_lt, eq-eqb, ne_eqb}
use Rattle.std.proofs.lemmas.Nat.{shr-shr}
use Rattle.std.proofs.lemmas.Nat.Bits.{bit_at_set_same, bit_at_set_other, bit_at_clear_same, bit_at_clear_other, bit_at-zero}
use Rattle.std.proofs.Common.{lt_of_lt_of_le, suc-ne-zero}
use lib.Pow.{pow_mono}
use native.Mathlib.Nat.{div-eq_of_lt}
use Rattle.std.specs.Int.{w64, bit_at, from_bool}
use Rattle.std.specs.Int.Bits.{or_zero_r}
use Rattle.wakes.specs.Marks.{is_marked, IsNext}
use Rattle.wakes.specs.MarkedEnd.{EndsAt}

-- of two numbers in one word
apart : (i j : ℕ) → j / 64 ≡ i / 64 → (j % 64 ≡ i % 64 → ⊥) → j ≢ i
apart i j word bit e = bit (ap (λ n. n % 64) e)

one : (i j : ℕ) → j / 64 ≡ i / 64 → j % 64 ≡ i % 64 → j ≡ i
one i j word bit = omega arith

module _ (words new : List ℕ) (i v x : ℕ) (room : i < 64 * length words) (here : v ≡ get_or words (i / 64) v) (is : new ≡ set words (i / 64) x) where
  within : i / 64 < length words
  within = omega arith

  own : (j : ℕ) → j / 64 ≡ i / 64 → slice_index new (j / 64) ≡ x
  own j e = ap (slice_index new) e ∙ ap (λ ws. get_or ws (i / 64) 0) is ∙ get_or-set_same words (i / 64) x 0 within

  was : (j : ℕ) → j / 64 ≡ i / 64 → slice_index words (j / 64) ≡ v
  was j e = ap (slice_index words) e ∙ get_or_default words (i / 64) 0 v within ∙ sym here

  other : (j : ℕ) → (j / 64 ≡ i / 64 → ⊥) → slice_index new (j / 64) ≡ slice_index words (j / 64)
  other j ne = ap (λ ws. get_or ws (j / 64) 0) is ∙ get_or-set_other words (i / 64) (j / 64) x 0 ne

module _ (words new : List ℕ) (i v : ℕ) (room : i < 64 * length words) (here : v ≡ get_or words (i / 64) v) where
  low : i % 64 < 64
  low = omega arith

  pub marks : new ≡ set words (i / 64) (bit_or v (1 * 2 ^ (i % 64) % 2 ^ 64)) → (j : ℕ) → is_marked new j ≡ (j == i || is_marked words j)
  marks is j = elim (cases_eq (j / 64) (i / 64)) [
    | inl e ↦
        elim (cases_eq (j % 64) (i % 64)) [
          | inl f ↦
              let bit : bit_at (slice_index new (j / 64)) (j % 64) ≡ 1 = ap (λ w. bit_at w (j % 64)) (own words new i v _ room here is j e) ∙ ap (bit_at _) f ∙ bit_at_set_same w64 v (i % 64) low in
              ap (λ n. n == 1) bit ∙ sym (ap (λ b. b || is_marked words j) (eq-eqb j i (one i j e f)))
          | inr f ↦
              let bit : bit_at (slice_index new (j / 64)) (j % 64) ≡ bit_at (slice_index words (j / 64)) (j % 64) =
              ap (λ w. bit_at w (j % 64)) (own words new i v _ room here is j e) ∙ bit_at_set_other w64 v (i % 64) low (j % 64) f ∙ ap (λ w. bit_at w (j % 64)) (sym (was words new i v _ room here is j e)) in
              ap (λ n. n == 1) bit ∙ sym (ap (λ b. b || is_marked words j) (ne_eqb j i (apart i j e f)))
        ]
    | inr e ↦
        ap (λ w. bit_at w (j % 64) == 1) (other words new i v _ room here is j e)
        ∙ sym (ap (λ b. b || is_marked words j) (ne_eqb j i (λ same. e (ap (λ n. n / 64) same))))
  ]

  pub unmarks : new ≡ set words (i / 64) (bit_and v (18446744073709551615 - 1 * 2 ^ (i % 64) % 2 ^ 64)) → (j : ℕ) → is_marked new j ≡ (not (j == i) && is_marked words j)
  unmarks is j = elim (cases_eq (j / 64) (i / 64)) [
    | inl e ↦
        elim (cases_eq (j % 64) (i % 64)) [
          | inl f ↦
              let bit : bit_at (slice_index new (j / 64)) (j % 64) ≡ 0 = ap (λ w. bit_at w (j % 64)) (own words new i v _ room here is j e) ∙ ap (bit_at _) f ∙ bit_at_clear_same w64 v (i % 64) low in
              ap (λ n. n == 1) bit ∙ sym (ap (λ b. not b && is_marked words j) (eq-eqb j i (one i j e f)))
          | inr f ↦
              let bit : bit_at (slice_index new (j / 64)) (j % 64) ≡ bit_at (slice_index words (j / 64)) (j % 64) =
              ap (λ w. bit_at w (j % 64)) (own words new i v _ room here is j e) ∙ bit_at_clear_other w64 v (i % 64) low (j % 64) (omega arith) f
              ∙ ap (λ w. bit_at w (j % 64)) (sym (was words new i v _ room here is j e)) in
              ap (λ n. n == 1) bit ∙ sym (ap (λ b. not b && is_marked words j) (ne_eqb j i (apart i j e f)))
        ]
    | inr e ↦
        ap (λ w. bit_at w (j % 64) == 1) (other words new i v _ room here is j e)
        ∙ sym (ap (λ b. not b && is_marked words j) (ne_eqb j i (λ same. e (ap (λ n. n / 64) same))))
  ]

  same-length : (x : ℕ) → new ≡ set words (i / 64) x → length new ≡ length words
  same-length x is = ap length is ∙ length-set words (i / 64) x

  -- how far the marks reach then
  pub marked-ends : (end later : ℕ) → new ≡ set words (i / 64) (bit_or v (1 * 2 ^ (i % 64) % 2 ^ 64)) → EndsAt words end → end ≤ later → i < later → later ≤ 64 * length words → EndsAt new later
  marked-ends end later is e le lt fits =
      let long = same-length _ is in
      record {
        few = omega (arith, long, e.few);
        within = omega (arith, long);
        none = λ j past.
            marks is j ∙ ap (λ b. b || is_marked words j) (ne_eqb j i (λ same. let w : ⊥ = omega arith in w)) ∙ e.none j (omega arith);
      }

  -- a number is marked where a flag says so
  same : new ≡ set words (i / 64) (bit_or v (0 * 2 ^ (i % 64) % 2 ^ 64)) → new ≡ words
  same is =
      let none : 0 * 2 ^ (i % 64) % 2 ^ 64 ≡ 0 = omega arith in
      is ∙ ap (set words (i / 64)) (ap (bit_or v) none ∙ or_zero_r v ∙ here) ∙ set-get_or words (i / 64) v

  pub marks-where : (on : Bool) → new ≡ set words (i / 64) (bit_or v (from_bool on * 2 ^ (i % 64) % 2 ^ 64)) → (j : ℕ) → is_marked new j ≡ ((j == i && on) || is_marked words j)
  marks-where true is j = marks is j ∙ sym (ap (λ b. b || is_marked words j) (and-true (j == i)))
  marks-where false is j = ap (λ ws. is_marked ws j) (same is) ∙ sym (ap (λ b. b || is_marked words j) (and-false (j == i)))

  pub unmarked-ends : (end : ℕ) → new ≡ set words (i / 64) (bit_and v (18446744073709551615 - 1 * 2 ^ (i % 64) % 2 ^ 64)) → EndsAt words end → EndsAt new end
  unmarked-ends end is e =
      let long = same-length _ is in
      record {
        few = omega (arith, long, e.few);
        within = omega (arith, long, e.within);
        none = λ j past. unmarks is j ∙ ap (λ b. not (j == i) && b) (e.none j past) ∙ and-false (not (j == i));
      }

-- a word without bits has none marked
pub none_in : (words : List ℕ) (j : ℕ) → slice_index words (j / 64) ≡ 0 → is_marked words j ≡ false
none_in words j zero_word = ap (λ w. bit_at w (j % 64) == 1) zero_word ∙ ap (λ n. n == 1) (bit_at-zero (j % 64))

-- the numbers of a word are its bits
pub word-bit : (words : List ℕ) (place i : ℕ) → i < 64 → is_marked words (64 * place + i) ≡ (bit_at (slice_index words place) i == 1)
word-bit words place i lt =
    let word : (64 * place + i) / 64 ≡ place = omega (arith, lt) in
    let bit : (64 * place + i) % 64 ≡ i = omega (arith, lt) in
    ap (λ q. bit_at (slice_index words q) ((64 * place + i) % 64) == 1) word ∙ ap (λ q. bit_at (slice_index words place) q == 1) bit

-- the bits of word p from bit s on, where the number of bit s is `from`
module _ (words : List ℕ) (from p s v : ℕ) (starts : 64 * p + s ≡ from) (here : slice_index words p ≡ v) where
  bit : (n : ℕ) → bit_at (v / 2 ^ s) n ≡ bit_at v (s + n)
  bit n = ap (λ x. x % 2) (shr-shr v s n)

  pub marked-at : (n : ℕ) → s + n < 64 → is_marked words (from + n) ≡ (bit_at (v / 2 ^ s) n == 1)
  marked-at n lt =
      let word : (from + n) / 64 ≡ p = omega arith in
      let place : (from + n) % 64 ≡ s + n = omega arith in
      ap (λ q. bit_at (slice_index words q) ((from + n) % 64) == 1) word ∙ ap (λ w. bit_at w ((from + n) % 64) == 1) here ∙ ap (λ q. bit_at v q == 1) place ∙ ap (λ x. x == 1) (sym (bit n))

  -- where none of them is set
  pub none-here : v / 2 ^ s ≡ 0 → (j : ℕ) → from ≤ j → j < 64 * (p + 1) → is_marked words j ≡ false
  none-here none j le lt =
      let at : from + (j - from) ≡ j = omega arith in
      ap (is_marked words) (sym at) ∙ marked-at (j - from) (omega arith) ∙ ap (λ x. bit_at x (j - from) == 1) none ∙ ap (λ x. x == 1) (bit_at-zero (j - from))

  -- the lowest of them is the first marked number
  module _ (low : ℕ) (within : p < length words) (small : v < 2 ^ 64) (there : bit_at (v / 2 ^ s) low ≡ 1) (lowest : (i : ℕ) → i < low → bit_at (v / 2 ^ s) i ≡ 0) where
    pub fits : s + low < 64
    fits = elim (cases_lt (s + low) 64) [
      | inl lt ↦ lt
      | inr le ↦
          let small' : v < 2 ^ (s + low) = lt_of_lt_of_le small (pow_mono le) in
          let gone : bit_at v (s + low) ≡ 0 = ap (λ x. x % 2) (div-eq_of_lt small') in
          let never : 1 ≡ 0 = sym there ∙ bit low ∙ gone in
          absurd (suc-ne-zero 0 never)
    ]

    pub lowest-next : IsNext words from (from + low)
    lowest-next = record {
      within = omega (arith, fits);
      behind = omega arith;
      is = marked-at low fits ∙ ap (λ x. x == 1) there;
      first = λ j le lt.
          let at : from + (j - from) ≡ j = omega arith in
          ap (is_marked words) (sym at) ∙ marked-at (j - from) (omega (arith, fits)) ∙ ap (λ x. x == 1) (lowest (j - from) (omega arith));
    }

-- the first marked number is in the word where the search begins
module _ (words : List ℕ) (from v : ℕ) (within : from / 64 < length words) (here : v ≡ get_or words (from / 64) v) where
  at : slice_index words (from / 64) ≡ v
  at = get_or_default words (from / 64) 0 v within ∙ sym here

  pub next-here : (rest low : ℕ) → rest ≡ v / 2 ^ (from % 64) → v < 2 ^ 64 → bit_at rest low ≡ 1 → ((i : ℕ) → i < low → bit_at rest i ≡ 0) → IsNext words from (from + low)
  next-here rest low is small there lowest =
      lowest-next words from (from / 64) (from % 64) v (omega arith) at low within small (ap (λ r. bit_at r low) (sym is) ∙ there) (λ i lt. ap (λ r. bit_at r i) (sym is) ∙ lowest i lt)

  -- or it isn't
  pub next-later : (rest : ℕ) → rest ≡ v / 2 ^ (from % 64) → rest ≡ 0 → (j : ℕ) → from ≤ j → j < 64 * (from / 64 + 1) → is_marked words j ≡ false
  next-later rest is none = none-here words from (from / 64) (from % 64) v (omega arith) at (sym is ∙ none)
