-- What callers see of a sink that counts.
use Rattle.std.specs.Prelude.{◌≡◌, ℕ, ◌-◌, ◌^◌, ◌==◌, min, Bool, false, List, [], ◌∷◌, length, get_or, count_by}
use Rattle.std.specs.List.{slice_split}
use Rattle.ecam_io.specs.declared.tally.Tally.{Tally}

-- a number as a count has it that ends at 2^64 - 1
abbrev pub as_count : ℕ → ℕ
as_count n = min n (2 ^ 64 - 1)

abbrev pub is_line_feed : ℕ → Bool
is_line_feed byte = byte == 10

-- the lines of some bytes, each without its line feed; what follows the last line feed is the last of them
unfoldable pub lines_of : List ℕ → List (List ℕ)
lines_of bytes = slice_split is_line_feed bytes

-- a line begins with `@`, as the first of each block does
abbrev pub begins_block : List ℕ → Bool
begins_block [] = false
begins_block (byte ∷ bytes) = byte == 64

-- there are none, or the last of them is a line feed
unfoldable pub is_fresh : List ℕ → Bool
is_fresh bytes = is_line_feed (get_or bytes (length bytes - 1) 10)

-- the tally is that of these bytes
pub record IsTallyOf (tally : Tally) (written : List ℕ) : Type 0 where
  pub bytes : tally.bytes ≡ as_count (length written)
  pub lines : tally.lines ≡ as_count (count_by is_line_feed written)
  pub blocks : tally.blocks ≡ as_count (count_by begins_block (lines_of written))
  pub fresh : tally.fresh ≡ is_fresh written
