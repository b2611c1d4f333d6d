-- The numbers of a condition's text, where they are in their ranges.
use Rattle.std.specs.Prelude.{ℕ, Bool, true, false, ℤ, pos, neg_ℤ, Option, Some, None, if◌then◌else◌}
use Rattle.ecam_spec.specs.declared.limits.TheConstants.{NUMBER}
use Rattle.ecam_spec.specs.Book.{Text}
use Rattle.ecam_spec.specs.TermNumber.{value, magnitude, is_within}

-- a number by its sign and how far it is from 0
abbrev pub signed : Bool → ℕ → ℤ
signed true m = neg_ℤ (pos m)
signed false m = pos m

-- a number that something is compared with
abbrev pub compared_number : Text → Option ℤ
compared_number t = if is_within (neg_ℤ (pos NUMBER)) (pos NUMBER) (value t) then Some (value t) else None

-- a number from low to high
abbrev pub amount_within : ℕ → ℕ → Text → Option ℕ
amount_within low high t = if is_within (pos low) (pos high) (value t) then Some (magnitude t) else None
