-- Which number is due first.
use Rattle.std.specs.Prelude.{ℕ, ◌-◌, ◌^◌, ◌<◌, ◌≤◌, List, length, slice_index, Option, MatchOption}

-- the key of what is never due
abbrev pub never : ℕ
never = 2 ^ 64 - 1

-- the first place whose key has come by now, or none has
abbrev pub FirstDue : List ℕ → ℕ → Option ℕ → Type 0
FirstDue keys now found =
    MatchOption found ((t : ℕ) → t < length keys → now < slice_index keys t)
    (λ t. (t < length keys) × (slice_index keys t ≤ now) × ((i : ℕ) → i < t → now < slice_index keys i))
