-- How far a set of marks may reach.
use Rattle.std.specs.Prelude.{◌≡◌, ℕ, ◌^◌, ◌≤◌, false, List, length}
use Rattle.wakes.specs.Marks.{is_marked, room}

-- no number from `end` on is marked in these words, of which there are few
pub record EndsAt (words : List ℕ) (end : ℕ) : Type 0 where
  pub few : length words ≤ 2 ^ 33
  pub within : end ≤ room words
  pub none : (i : ℕ) → end ≤ i → is_marked words i ≡ false
