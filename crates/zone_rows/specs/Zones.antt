-- The five zones of a picture, one after another.
use Rattle.std.specs.Prelude.{◌≡◌, ℕ, List, length, take, drop}
use Rattle.ecam_spec.specs.declared.limits.TheConstants.{ZONE_ROWS, DISPLAY_ROWS}
use Rattle.ecam_spec.specs.Picture.{Row}
use Rattle.zone_rows.specs.Tracked.{TrackedRows, TellsChanges}

-- the left zone, the right zone, the flags, the system display, and the lamps with the aural warning
pub record HaveZoneLengths (l r f s m : List Row) : Type 0 where
  pub left : length l ≡ ZONE_ROWS
  pub right : length r ≡ ZONE_ROWS
  pub flags : length f ≡ 1
  pub display : length s ≡ DISPLAY_ROWS
  pub lamps : length m ≡ 3

-- these rows stand in a picture from `at` on
abbrev pub StandAt : ℕ → List Row → List Row → Type 0
StandAt at these picture = take (length these) (drop at picture) ≡ these

pub record ZonesStand (l r f s m picture : List Row) : Type 0 where
  pub left : StandAt 0 l picture
  pub right : StandAt 7 r picture
  pub flags : StandAt 14 f picture
  pub display : StandAt 15 s picture
  pub lamps : StandAt 33 m picture

-- this is the picture now, and exactly the rows that differ from what they were are told as changed
pub record IsMended (picture : List Row) (old new : TrackedRows) : Type 0 where
  pub rows : new.rows ≡ picture
  pub changed : TellsChanges old new
