-- What stands in the picture of a lane after some moments, and what FL tells of it.
use Rattle.std.specs.Prelude.{◌≡◌, ℕ, suc, nat_lt, List, [], ◌∷◌, length}
use Rattle.ecam_spec.specs.Book.{Book}
use Rattle.ecam_spec.specs.Picture.{Row, Picture}
use Rattle.ecam_spec.specs.History.{Moment}
use Rattle.ecam_spec.specs.LeftZone.{LeftRow, left_zone, has_more, overflow}
use Rattle.ecam_spec.specs.RightZone.{right_zone, right_beyond}
use Rattle.ecam_spec.specs.StatusPage.{flags, flags_row}
use Rattle.ecam_spec.specs.SystemDisplay.{display_rows}
use Rattle.ecam_spec.specs.Selection.{choice}
use Rattle.ecam_spec.specs.Lamps.{warns, cautions, sound}
use Rattle.ecam_spec.specs.LampRows.{lamp_rows}
use Rattle.ecam_spec.specs.Screen.{left_in, right_in, status_in, display, panel, attention, picture_in}
use Rattle.zone_rows.specs.Zones.{StandAt}
use Rattle.ecam_spec.specs.Output.{picture_before}
use Rattle.warning_display.specs.declared.left.LeftCount.{LeftCount}
use Rattle.fwc_lane.specs.declared.counts.FlagCounts.{FlagCounts}

-- the rows of FL, of the system display, and of the lights and the sound in moment k
abbrev pub flag_rows_in : Book → (ℕ → Moment) → ℕ → List Row
flag_rows_in b m k =
    flags_row (flags (has_more (left_in b m k)) (overflow (left_in b m k)) (right_beyond (right_in b m k)) (status_in b m k)) ∷ []

abbrev pub display_rows_in : Book → (ℕ → Moment) → ℕ → List Row
display_rows_in b m k = display_rows (display b m k) (choice (panel b m) k)

abbrev pub lamp_rows_in : Book → (ℕ → Moment) → ℕ → List Row
lamp_rows_in b m k = lamp_rows (warns (attention b m) k) (cautions (attention b m) k) (sound (attention b m) k)

-- so much of these rows stands beyond the seventh
pub record CountsLeft (rows : List LeftRow) (count : LeftCount) : Type 0 where
  pub beyond : count.beyond ≡ overflow rows
  pub more : count.more ≡ has_more rows

-- this is what FL tells of in moment k
pub record AreCounts (b : Book) (m : ℕ → Moment) (k : ℕ) (counts : FlagCounts) : Type 0 where
  pub left : CountsLeft (left_in b m k) counts.left
  pub right : counts.right ≡ right_beyond (right_in b m k)
  pub status : counts.status ≡ nat_lt 0 (length (status_in b m k))

-- after k moments this picture is shown, blank before the first, and this is what FL tells of
pub record IsDrawn (b : Book) (m : ℕ → Moment) (k : ℕ) (shown : Picture) (counts : FlagCounts) : Type 0 where
  pub picture : shown ≡ picture_before (picture_in b m) k
  pub counted : (j : ℕ) → k ≡ suc j → AreCounts b m j counts

-- a zone of moment j stands in these rows, with what is counted of it
pub record LeftStands (b : Book) (m : ℕ → Moment) (j : ℕ) (rows : List Row) (count : LeftCount) : Type 0 where
  pub zone : StandAt 0 (left_zone (left_in b m j)) rows
  pub counted : CountsLeft (left_in b m j) count

pub record RightStands (b : Book) (m : ℕ → Moment) (j : ℕ) (rows : List Row) (count : ℕ) : Type 0 where
  pub zone : StandAt 7 (right_zone (right_in b m j)) rows
  pub counted : count ≡ right_beyond (right_in b m j)

pub record FlagsStand (b : Book) (m : ℕ → Moment) (j : ℕ) (rows : List Row) (counts : FlagCounts) : Type 0 where
  pub zone : StandAt 14 (flag_rows_in b m j) rows
  pub counted : AreCounts b m j counts
