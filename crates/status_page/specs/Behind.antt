-- The rows of the status page from some row on: those before it are passed over.
use Rattle.std.specs.Prelude.{◌≡◌, ℕ, ◌-◌, List, ◌++◌, length, drop}
use Rattle.ecam_spec.specs.declared.limits.TheConstants.{DISPLAY_ROWS}
use Rattle.ecam_spec.specs.Picture.{Row}
use Rattle.zone_rows.specs.Tracked.{TrackedRows}
use Rattle.zone_rows.specs.Mended.{IsFilled}
use Rattle.status_page.specs.declared.place.Place.{Place}

-- since `start` these rows came, of which those from row `from` on were put into the eighteen of the display
pub record IsFilledBehind (from : ℕ) (put : List Row) (place : Place) (start now : TrackedRows) : Type 0 where
  pub behind : IsFilled 15 DISPLAY_ROWS (drop from put) place.count start now
  pub skip : place.skip ≡ from - length put

-- whichever rows came before, these come after them
abbrev pub AppendsBehind : List Row → Place → Place → TrackedRows → TrackedRows → Type 0
AppendsBehind more place later old new =
    (from : ℕ) (put : List Row) (start : TrackedRows) → IsFilledBehind from put place start old → IsFilledBehind from (put ++ more) later start new
