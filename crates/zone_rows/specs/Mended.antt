-- Which rows are put into a picture, and that nothing else changes.
use Rattle.std.specs.Prelude.{◌≡◌, ℕ, ◌+◌, min, List, ◌++◌, length, take, drop}
use Rattle.ecam_spec.specs.Picture.{Row}
use Rattle.zone_rows.specs.Tracked.{TrackedRows, TellsChanges}

-- rows with these in their place from `at` on
abbrev pub put_rows : ℕ → List Row → List Row → List Row
put_rows at put old = take at old ++ (put ++ drop (at + length put) old)

-- from `at` on these rows stand now, all others are as they were, and the rows that changed are told
pub record Mends (at : ℕ) (put : List Row) (old new : TrackedRows) : Type 0 where
  pub rows : new.rows ≡ put_rows at put old.rows
  pub changed : TellsChanges old new

-- since `start` these rows were put into a zone of so much room, as many as it has room for; they are counted up
-- to one more than the room
pub record IsFilled (first room : ℕ) (put : List Row) (count : ℕ) (start now : TrackedRows) : Type 0 where
  pub rows : Mends first (take room put) start now
  pub many : count ≡ min (length put) (room + 1)

-- whatever was put into a zone before, these rows are put after it
abbrev pub Appends : (first room : ℕ) (more : List Row) (count later : ℕ) (old new : TrackedRows) → Type 0
Appends first room more count later old new =
    (put : List Row) (start : TrackedRows)
    → IsFilled first room put count start old → IsFilled first room (put ++ more) later start new
