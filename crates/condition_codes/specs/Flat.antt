-- Some lists one behind another in one, with the place where each starts, and where the last ends.
use Rattle.std.specs.Prelude.{◌≡◌, ℕ, suc, ◌-◌, ◌<◌, ◌≤◌, List, length, take, drop, slice_index}

-- piece j of those that start at these places
abbrev pub piece : {X : Type 0} → List ℕ → List X → ℕ → List X
piece starts items j = take (slice_index starts (suc j) - slice_index starts j) (drop (slice_index starts j) items)

-- so many pieces, and nothing behind them
pub record ArePieces {X : Type 0} (n : ℕ) (starts : List ℕ) (items : List X) : Type 0 where
  pub count : length starts ≡ suc n
  pub first : slice_index starts 0 ≡ 0
  pub ends : slice_index starts n ≡ length items
  pub ordered : (j : ℕ) → j < n → slice_index starts j ≤ slice_index starts (suc j)
  pub within : (j : ℕ) → j ≤ n → slice_index starts j ≤ length items
