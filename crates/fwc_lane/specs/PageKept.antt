-- When the page on the system display is that of the moment before, of which only the values can turn.
use Rattle.std.specs.Prelude.{◌≡◌, ℕ, suc, Bool, false, List, Option}
use Rattle.ecam_spec.specs.declared.kinds.Choice.{Choice}
use Rattle.ecam_spec.specs.declared.kinds.Choice.TheVariants.{Auto}
use Rattle.ecam_spec.specs.Book.{Book, Page}
use Rattle.ecam_spec.specs.Picture.{Row}
use Rattle.ecam_spec.specs.History.{Moment}
use Rattle.ecam_spec.specs.Selection.{choice}
use Rattle.ecam_spec.specs.Screen.{panel, display}
use Rattle.ecam_spec.specs.SystemDisplay.{Display, called_page, page_rows}
use Rattle.zone_rows.specs.Zones.{StandAt}
use Rattle.system_display.specs.Pages.{DifferBy}
use Rattle.fwc_lane.specs.declared.scene.Turned.{Turned}
use Rattle.fwc_lane.specs.Drawn.{display_rows_in}

-- the moment isn't the first, and neither the choice nor, where the situation calls for the page, what it goes by turned
pub record KeepsPage (t : Turned) (c : Choice) (chosen : Bool) : Type 0 where
  pub first : t.first ≡ false
  pub same_choice : chosen ≡ false
  pub marks : c ≡ Auto → t.marks ≡ false
  pub phase : c ≡ Auto → t.phase ≡ false

-- moment k has the page of the moment before it, whose system display stands in these rows
pub record PageStands (b : Book) (m : ℕ → Moment) (k : ℕ) (rows : List Row) : Type 0 where
  pub before : ℕ
  pub next : k ≡ suc before
  pub chosen : choice (panel b m) k ≡ choice (panel b m) before
  pub called : choice (panel b m) k ≡ Auto → called_page (display b m k) ≡ called_page (display b m before)
  pub stand : StandAt 15 (display_rows_in b m before) rows

-- the page stands in these rows as a display shows it that has other values only of the parameters that are marked
pub record HasStood (b : Book) (turned : List ℕ) (d : Display) (page : Option Page) (rows : List Row) : Type 0 where
  pub was : Display
  pub differ : DifferBy b turned was d
  pub stand : StandAt 15 (page_rows was page) rows
