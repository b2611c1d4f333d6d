-- The summary of the words with marked parameters.
use Rattle.std.proofs.Common.{◌≡◌, ℕ, ◌+◌, ◌-◌, ◌*◌, ◌/◌, ◌%◌, ◌^◌, ◌<◌, ◌≤◌, ◌==◌, ◌&&◌, ◌||◌, Bool, true, false, List, length, bit_or, sym, ap, subst, ◌∙◌, inl, inr, lt_of_lt_of_le, suc-ne-zero, arith}
use Rattle.std.proofs.lemmas.Bool.{cases_lt, or_cases, and_parts, eqb-true, false≢true, false_from_ne_true}
use Rattle.std.proofs.lemmas.Nat.{shr-shr}
use Rattle.std.proofs.lemmas.Nat.Bits.{bit_at_set_same, bit_at_or, bit_at-lt, bit_at-zero}
use lib.Pow.{pow_mono}
use native.Mathlib.Nat.{div-eq_of_lt}
use Rattle.std.specs.Int.{w64, bit_at, from_bool}
use Rattle.std.specs.List.{refill}
use Rattle.wakes.specs.Marks.{is_marked, room}
use Rattle.wakes.proofs.Lent.{come_back}
use Rattle.param_table.specs.HeldState.{AreSummed}

-- a bit that is set stays so
stays : (busy more i : ℕ) → bit_at busy i ≡ 1 → bit_at (bit_or busy more) i ≡ 1
stays busy more i on = omega (arith, bit_at_or busy more i, bit_at-lt more i, on)

-- a parameter is marked where a flag says so, and its word is put in
pub put-summed : (marks new : List ℕ) (busy param : ℕ) (on : Bool) → ((p : ℕ) → is_marked new p ≡ ((p == param && on) || is_marked marks p))
    → AreSummed marks busy → AreSummed new (bit_or busy (from_bool on * 2 ^ (param / 64 % 64) % 2 ^ 64))
unfolding AreSummed
put-summed marks new busy param on are was = λ p marked.
    let word = param / 64 % 64 in
    elim (or_cases (p == param && on) (is_marked marks p) (sym (are p) ∙ marked)) [
      | inl own ↦
          let both = and_parts (p == param) on own in
          let low : param / 64 % 64 < 64 = omega arith in
          ap (λ q. bit_at (bit_or busy (from_bool on * 2 ^ word % 2 ^ 64)) (q / 64 % 64)) (eqb-true p param both.0)
          ∙ ap (λ t. bit_at (bit_or busy (from_bool t * 2 ^ word % 2 ^ 64)) word) both.1
          ∙ bit_at_set_same w64 busy word low
      | inr before ↦ stays busy (from_bool on * 2 ^ word % 2 ^ 64) (p / 64 % 64) (was p before)
    ]

-- the words were lent, and are back
pub back-summed : (words lent left : List ℕ) (was now : ℕ) → lent ≡ words → room left ≡ room lent
    → (AreSummed lent was → AreSummed left now) → AreSummed words was → AreSummed (refill (length words) words left) now
back-summed words lent left was now is same keeps are =
    subst (λ ws. AreSummed ws now) (sym (come_back words left (same ∙ ap room is))) (keeps (subst (λ ws. AreSummed ws was) (sym is) are))

-- where no parameter is marked any summary is right
pub unmarked-summed : (marks : List ℕ) (busy : ℕ) → ((p : ℕ) → is_marked marks p ≡ false) → AreSummed marks busy
unfolding AreSummed
unmarked-summed marks busy none = λ p on. absurd (false≢true (sym (none p) ∙ on))

-- where no word is in the summary no parameter is marked
pub none-marked : (marks : List ℕ) (busy : ℕ) → AreSummed marks busy → busy ≡ 0 → (p : ℕ) → is_marked marks p ≡ false
unfolding AreSummed
none-marked marks busy are none p = false_from_ne_true _ (λ on.
    suc-ne-zero 0 (sym (are p on) ∙ ap (λ b. bit_at b (p / 64 % 64)) none ∙ bit_at-zero (p / 64 % 64)))

-- the summary from a word on
module _ (marks : List ℕ) (busy from later : ℕ) (are : AreSummed marks busy) (is : later ≡ busy / 2 ^ from) where
  bit : (n : ℕ) → bit_at later n ≡ bit_at busy (from + n)
  bit n = ap (λ x. bit_at x n) is ∙ ap (λ x. x % 2) (shr-shr busy from n)

  quiet : (p : ℕ) → 64 * from ≤ p → p < 64 * 64 → bit_at later (p / 64 - from) ≡ 0 → is_marked marks p ≡ false
  unfolding AreSummed
  quiet p le lt off = false_from_ne_true _ (λ on.
      let at : from + (p / 64 - from) ≡ p / 64 % 64 = omega (arith, le, lt) in
      suc-ne-zero 0 (sym (are p on) ∙ ap (bit_at busy) (sym at) ∙ sym (bit (p / 64 - from)) ∙ off))

  -- where no word is in it from there on
  pub none-later : later ≡ 0 → (p : ℕ) → 64 * from ≤ p → p < 64 * 64 → is_marked marks p ≡ false
  none-later none p le lt = quiet p le lt (ap (λ x. bit_at x (p / 64 - from)) none ∙ bit_at-zero (p / 64 - from))

  -- or before the lowest
  module _ (low : ℕ) (small : busy < 2 ^ 64) (there : bit_at later low ≡ 1) (lowest : (i : ℕ) → i < low → bit_at later i ≡ 0) where
    fits : from + low < 64
    fits = elim (cases_lt (from + low) 64) [
      | inl lt ↦ lt
      | inr le ↦
          let small' : busy < 2 ^ (from + low) = lt_of_lt_of_le small (pow_mono le) in
          let gone : bit_at busy (from + low) ≡ 0 = ap (λ x. x % 2) (div-eq_of_lt small') in
          absurd (suc-ne-zero 0 (sym there ∙ bit low ∙ gone))
    ]

    pub none-before : (p : ℕ) → 64 * from ≤ p → p < 64 * (from + low) → is_marked marks p ≡ false
    none-before p le lt = quiet p le (omega (arith, lt, fits)) (lowest (p / 64 - from) (omega (arith, le, lt)))
