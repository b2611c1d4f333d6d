-- Which numbers a set of marks holds.
use Rattle.std.specs.Prelude.{◌≡◌, ℕ, zero, suc, ◌+◌, ◌*◌, ◌/◌, ◌%◌, ◌<◌, ◌≤◌, ◌==◌, Bool, true, false, List, length, slice_index, Option, MatchOption}
use Rattle.std.specs.Int.{bit_at, from_bool}

-- number i has its bit in these words of 64 bits
abbrev pub is_marked : List ℕ → ℕ → Bool
is_marked words i = bit_at (slice_index words (i / 64)) (i % 64) == 1

-- the numbers below this can be marked
abbrev pub room : List ℕ → ℕ
room words = 64 * length words

-- how many numbers below n are marked
unfoldable pub marked_below : List ℕ → ℕ → ℕ
marked_below words zero = 0
marked_below words (suc n) = marked_below words n + from_bool (is_marked words n)

-- i is the first marked number from `from` on
pub record IsNext (words : List ℕ) (from i : ℕ) : Type 0 where
  pub within : i < room words
  pub behind : from ≤ i
  pub is : is_marked words i ≡ true
  pub first : (j : ℕ) → from ≤ j → j < i → is_marked words j ≡ false

-- the answer is the first marked number from there on, or there is none
abbrev pub Finds : List ℕ → ℕ → Option ℕ → Type 0
Finds words from found = MatchOption found ((j : ℕ) → from ≤ j → is_marked words j ≡ false) (IsNext words from)
