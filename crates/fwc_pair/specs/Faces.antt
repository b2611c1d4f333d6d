-- What a Tick makes of the picture that stands.
use Rattle.std.specs.Prelude.{◌≡◌, ℕ, ◌<◌, ◌≤◌, Bool, false, List, length, take, get_or}
use Rattle.ecam_spec.specs.declared.limits.TheConstants.{PICTURE_ROWS}
use Rattle.ecam_spec.specs.Picture.{Picture, blank_row}
use Rattle.ecam_kinds.specs.Shown.{picture_of}
use Rattle.zone_rows.specs.Tracked.{TrackedRows}
use Rattle.zone_rows.specs.Mended.{Mends}
use Rattle.fwc_lane.specs.ChangedRows.{row_differs}
use Rattle.fwc_lane.specs.declared.lane.Lane.{Lane}

-- this is the picture now, and exactly the rows in which it differs from the old one are told as
-- changed
pub record IsShown (picture old now : Picture) (flags : List Bool) : Type 0 where
  pub rows : now ≡ picture
  pub changed : (i : ℕ) → i < PICTURE_ROWS → get_or flags i false ≡ row_differs old picture i

-- a row that isn't named is as it was
abbrev pub OthersStand : List Bool → Picture → Picture → Type 0
OthersStand named old picture =
    (i : ℕ) → i < PICTURE_ROWS → get_or named i false ≡ false
    → get_or old i blank_row ≡ get_or picture i blank_row

-- the first n rows of a picture are put in their places, all others are as they were, and the rows
-- that changed are told
abbrev pub IsMendedUpTo : ℕ → Picture → TrackedRows → TrackedRows → Type 0
IsMendedUpTo n picture start now = Mends 0 (take n picture) start now

-- whatever the rows were, if all are meant or those that aren't named stood, and the rows before `from`
-- were mended since, then those before `to` are mended now
abbrev pub MendsNext : (from to : ℕ) (all : Bool) (named : List Bool) (picture : Picture)
    → (old new : TrackedRows) → Type 0
MendsNext from to all named picture old new =
    (start : TrackedRows) → length start.rows ≡ PICTURE_ROWS
    → (all ≡ false → OthersStand named start.rows picture)
    → IsMendedUpTo from picture start old → IsMendedUpTo to picture start new

-- after its first moment a lane names each row that isn't the one that stood
abbrev pub NamesChanges : Lane → Picture → Type 0
NamesChanges l old = 2 ≤ l.moments → OthersStand l.changed old (picture_of l.picture)
