-- The marks of all alerts.
use Rattle.std.specs.Prelude.{◌≡◌, ℕ, ◌+◌, ◌*◌, ◌/◌, ◌<◌, Bool, false, ◌||◌, List, length, get_or, slice_set}
use Rattle.wakes.specs.Marks as numbers
use Rattle.wakes.specs.Marks.{room}
use Rattle.crew_marks.specs.declared.mark.Mark.{Mark}
use Rattle.crew_marks.specs.Ranks.{AreRanks, TellsPlaces}

-- the order in which the alerts are shown, and by alert: whether it is cleared, cancelled, recalled, and shown
pub record MarkSets : Type 0 where
  pub order : List ℕ
  pub cleared : List Bool
  pub cancelled : List Bool
  pub recalled : List Bool
  pub shown : List Bool

-- the mark of an alert
abbrev pub mark_at : MarkSets → ℕ → Mark
mark_at s a =
    record { cleared = get_or s.cleared a false; cancelled = get_or s.cancelled a false; recalled = get_or s.recalled a false; shown = get_or s.shown a false }

-- the same with another mark of one alert
abbrev pub set_mark : MarkSets → ℕ → Mark → MarkSets
set_mark s a m =
    record s { cleared = slice_set s.cleared a m.cleared; cancelled = slice_set s.cancelled a m.cancelled; recalled = slice_set s.recalled a m.recalled; shown = slice_set s.shown a m.shown }

-- something is marked
abbrev pub is_marked : Mark → Bool
is_marked m = m.cleared || (m.cancelled || (m.recalled || m.shown))

-- the room of a set of so many alerts
abbrev pub room_for : ℕ → ℕ
room_for n = 64 * (n / 64 + 1)

-- the alerts in this set are those of which something is marked
pub record AreMarked (s : MarkSets) (set : List ℕ) : Type 0 where
  pub room : room set ≡ room_for (length s.cleared)
  pub told : (a : ℕ) → numbers.is_marked set a ≡ is_marked (mark_at s a)

-- the crew made something of it
abbrev pub is_touched : Mark → Bool
is_touched m = m.cleared || (m.cancelled || m.recalled)

-- these flags tell by alert whether the crew made something of it
pub record TellTouched (s : MarkSets) (flags : List Bool) : Type 0 where
  pub many : length flags ≡ length s.cleared
  pub told : (a : ℕ) → get_or flags a false ≡ is_touched (mark_at s a)

-- the alert has a mark
pub record HasMark (s : MarkSets) (a : ℕ) : Type 0 where
  pub cleared : a < length s.cleared
  pub cancelled : a < length s.cancelled
  pub recalled : a < length s.recalled
  pub shown : a < length s.shown

-- there are so many alerts
pub record AreMany (s : MarkSets) (n : ℕ) : Type 0 where
  pub cleared : length s.cleared ≡ n
  pub cancelled : length s.cancelled ≡ n
  pub recalled : length s.recalled ≡ n
  pub shown : length s.shown ≡ n

-- these are the places of the alerts in the order, and the set holds those of the ones that are shown
pub record AreRanked (s : MarkSets) (ranks set : List ℕ) : Type 0 where
  pub places : AreRanks s.order ranks
  pub many : length ranks ≡ length s.shown
  pub room : room set ≡ room_for (length s.order)
  pub told : TellsPlaces s.order s.shown set
