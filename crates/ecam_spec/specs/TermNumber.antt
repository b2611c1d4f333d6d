-- The numbers in a condition's text, and the set of a flight phase.
use Rattle.std.specs.Prelude.{ℕ, ◌+◌, ◌-◌, ◌*◌, ◌^◌, Bool, true, false, ◌&&◌, ◌==◌, drop, fold, slice_index, ℤ, pos, neg_ℤ, int_le}
use Rattle.ecam_spec.specs.Book.{Text}

-- the number of decimal digits, highest first
abbrev pub digits_value : Text → ℕ
digits_value t = fold (λ n d. n * 10 + (d - 48)) 0 t

abbrev pub is_negative : Text → Bool
is_negative t = slice_index t 0 == 45

-- a number's digits, without its sign
abbrev pub without_sign : Text → Text
without_sign t = elim (is_negative t) [ true ↦ drop 1 t | false ↦ t ]

-- a number, and how far it is from 0
unfoldable pub magnitude : Text → ℕ
magnitude t = digits_value (without_sign t)

unfoldable pub value : Text → ℤ
value t = elim (is_negative t) [ true ↦ neg_ℤ (pos (magnitude t)) | false ↦ pos (magnitude t) ]

abbrev pub is_within : ℤ → ℤ → ℤ → Bool
is_within low high z = int_le low z && int_le z high

-- the set of one phase, as a number
abbrev pub one_phase : ℕ → ℕ
one_phase p = 2 ^ (p - 1)
