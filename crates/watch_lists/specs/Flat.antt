-- Some lists one behind another in one, with the place where each starts, and where the last ends.
use Rattle.std.specs.Prelude.{◌≡◌, ℕ, suc, ◌-◌, ◌<◌, ◌≤◌, List, [], length, take, drop, get_or, slice_index}

-- list o of those that start at these places
abbrev pub piece : List ℕ → List ℕ → ℕ → List ℕ
piece starts items o = take (slice_index starts (suc o) - slice_index starts o) (drop (slice_index starts o) items)

pub record IsFlat (lists : List (List ℕ)) (starts items : List ℕ) : Type 0 where
  pub count : length starts ≡ suc (length lists)
  pub ordered : (o : ℕ) → o < length lists → slice_index starts o ≤ slice_index starts (suc o)
  pub within : (o : ℕ) → o ≤ length lists → slice_index starts o ≤ length items
  pub each : (o : ℕ) → o < length lists → piece starts items o ≡ get_or lists o []
