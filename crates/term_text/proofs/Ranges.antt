-- When a number is in its range, by its sign and how far it is from 0.
use Rattle.std.proofs.Common.{◌≡◌, ◌⊎◌, inl, inr, ℕ, zero, suc, ◌<◌, ◌≤◌, min, Bool, true, false, Some, None, cond, refl, sym, ap, ◌∙◌, arith}
use Rattle.std.proofs.lemmas.Bool.{le-leb, lt-leb}
use Rattle.std.specs.Prelude.{ℤ, pos, neg_ℤ}
use Rattle.std.proofs.Math.Bool.{and-false}
use Rattle.ecam_spec.specs.Book.{Text}
use Rattle.ecam_spec.specs.TermNumber.{value, magnitude, is_negative, is_within}
use Rattle.term_text.specs.Numbers.{amount_within, compared_number, signed}

value-signed : (t : Text) (b : Bool) → is_negative t ≡ b → value t ≡ signed b (magnitude t)
unfolding value
value-signed t true e = ap (λ (v : Bool). elim v as (λ w. ℤ) [ true ↦ neg_ℤ (pos (magnitude t)) | false ↦ pos (magnitude t) ]) e
value-signed t false e = ap (λ (v : Bool). elim v as (λ w. ℤ) [ true ↦ neg_ℤ (pos (magnitude t)) | false ↦ pos (magnitude t) ]) e

-- a minus before 0 means nothing
plain : (b : Bool) (m : ℕ) → (b ≡ true → m ≡ 0) → signed b m ≡ pos m
plain true m none = ap (λ (n : ℕ). neg_ℤ (pos n)) (none refl) ∙ ap (λ (n : ℕ). pos n) (sym (none refl))
plain false m none = refl

pub no_minus : (b : Bool) (m amount : ℕ) → ((b ≡ true) × (amount ≤ 0)) ⊎ (b ≡ false) → amount ≡ min m 18446744073709551615 → b ≡ true → m ≡ 0
no_minus b m amount (inl h) is e = omega (arith, h.1)
no_minus b m amount (inr h) is e = absurd cc

within : (low high m : ℕ) → low ≤ m → m ≤ high → is_within (pos low) (pos high) (pos m) ≡ true
within low high m above below = rw (le-leb low m above, le-leb m high below) refl

outside : (low high m : ℕ) → (m < low) ⊎ (high < m) → is_within (pos low) (pos high) (pos m) ≡ false
outside low high m (inl under) = rw (lt-leb low m under) refl
outside low high m (inr over) = rw (lt-leb m high over) (and-false _)

below_zero : (low high m : ℕ) → 0 < m → is_within (pos low) (pos high) (signed true m) ≡ false
below_zero low high zero some = absurd (omega arith)
below_zero low high (suc m) some = refl

module _ (low high : ℕ) (t : Text) where
  chosen : (b : Bool) → is_within (pos low) (pos high) (value t) ≡ b → cond b (Some (magnitude t)) None ≡ amount_within low high t
  chosen b e = ap (λ (v : Bool). cond v (Some (magnitude t)) None) (sym e)

  plain_value : (is_negative t ≡ true → magnitude t ≡ 0) → value t ≡ pos (magnitude t)
  plain_value none = value-signed t (is_negative t) refl ∙ plain (is_negative t) (magnitude t) none

  pub amount_negative : is_negative t ≡ true → 0 < magnitude t → None ≡ amount_within low high t
  amount_negative negative some = chosen false (ap (is_within (pos low) (pos high)) (value-signed t true negative) ∙ below_zero low high (magnitude t) some)

  pub amount_in : (is_negative t ≡ true → magnitude t ≡ 0) → low ≤ magnitude t → magnitude t ≤ high → Some (magnitude t) ≡ amount_within low high t
  amount_in none above below = chosen true (ap (is_within (pos low) (pos high)) (plain_value none) ∙ within low high (magnitude t) above below)

  pub amount_out : (is_negative t ≡ true → magnitude t ≡ 0) → (magnitude t < low) ⊎ (high < magnitude t) → None ≡ amount_within low high t
  amount_out none out = chosen false (ap (is_within (pos low) (pos high)) (plain_value none) ∙ outside low high (magnitude t) out)

-- ---- numbers that something is compared with

abbrev most : ℕ
most = 1000000

-- within the range, which is alike on both sides of 0
abbrev near : ℤ → Bool
near = is_within (neg_ℤ (pos 1000000)) (pos 1000000)

near_in : (b : Bool) (m : ℕ) → m ≤ 1000000 → near (signed b m) ≡ true
near_in false m few = rw (le-leb m 1000000 few) refl
near_in true zero few = refl
near_in true (suc m) few = rw (le-leb m 999999 (omega arith)) refl

near_out : (b : Bool) (m : ℕ) → 1000000 < m → near (signed b m) ≡ false
near_out false m many = rw (lt-leb m 1000000 many) refl
near_out true zero many = absurd (omega arith)
near_out true (suc m) many = rw (lt-leb m 999999 (omega arith)) refl

module _ (t : Text) where
  taken : (b : Bool) → near (value t) ≡ b → cond b (Some (value t)) None ≡ compared_number t
  taken b e = ap (λ (v : Bool). cond v (Some (value t)) None) (sym e)

  pub compared_far : 1000000 < magnitude t → None ≡ compared_number t
  compared_far many = taken false (ap near (value-signed t (is_negative t) refl) ∙ near_out (is_negative t) (magnitude t) many)

  pub compared_near : (b : Bool) → is_negative t ≡ b → magnitude t ≤ 1000000 → Some (signed b (magnitude t)) ≡ compared_number t
  compared_near b e few =
      ap (λ (z : ℤ). Some z) (sym (value-signed t b e))
      ∙ taken true (ap near (value-signed t b e) ∙ near_in b (magnitude t) few)
