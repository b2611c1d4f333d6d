-- The system display: a page of the book with its values, or a status page. The layout is this project's own.
use Rattle.std.specs.Prelude.{ℕ, ◌-◌, ℤ, pos, List, [], ◌∷◌, ◌++◌, map, length, slice_get, replicate, find, Option, Some, None, codes, if◌then◌else◌}
use Rattle.std.specs.Ordering.{int_eq}
use Rattle.std.specs.Fmt.{signed_decimal}
use Rattle.std.specs.Option.{option_or, option_and_then}
use Rattle.ecam_spec.specs.declared.kinds.Choice.{Choice}
use Rattle.ecam_spec.specs.declared.kinds.Choice.TheVariants.{Auto, Page as PageChoice, Status}
use Rattle.ecam_spec.specs.declared.kinds.Colour.{Colour}
use Rattle.ecam_spec.specs.declared.kinds.Colour.TheVariants.{Amber, Green, White}
use Rattle.ecam_spec.specs.declared.kinds.Kind.{Kind}
use Rattle.ecam_spec.specs.declared.kinds.Kind.TheVariants.{Disc}
use Rattle.ecam_spec.specs.declared.limits.TheConstants.{VALUE_ROW_TEXT, DISPLAY_ROWS}
use Rattle.ecam_spec.specs.Book.{Text, PageRow, Page}
use Rattle.ecam_spec.specs.Term.{in_set}
use Rattle.ecam_spec.specs.Picture.{Row, row, zone}
use Rattle.ecam_spec.specs.StatusPage.{status_page}

-- a discrete is ON or OFF, and a number is in decimal
abbrev pub value_text : Kind → ℤ → Text
value_text Disc z = if int_eq z (pos 1) then codes "ON" else codes "OFF"
value_text _ z = signed_decimal z

-- a text filled with blanks behind, or in front, to n places
abbrev pub filled : ℕ → Text → Text
filled n t = t ++ replicate (n - length t) 32

abbrev pub filled_before : ℕ → Text → Text
filled_before n t = replicate (n - length t) 32 ++ t

-- a value's unit stands behind one blank
abbrev pub unit_text : Option Text → Text
unit_text None = []
unit_text (Some u) = 32 ∷ u

-- a row with a value: the text in 24 places, the value right in 8, the unit
unfoldable pub value_row : Text → Option Text → Colour → Text → Row
value_row text unit colour value = row colour (filled VALUE_ROW_TEXT text ++ filled_before 8 value ++ unit_text unit)

-- the pages, the kind of each parameter, and what is so in the moment: the values, the phase, the page of the
-- first shown alert if it has one, and the status rows
pub record Display : Type 0 where
  pub pages : List Page
  pub kinds : ℕ → Kind
  pub values : ℕ → Option ℤ
  pub phase : ℕ
  pub alert_page : Option ℕ
  pub status : List Row

module _ (d : Display) where
  -- a row whose value isn't there says XX
  unfoldable pub shown_value : PageRow → ℕ → Option ℤ → Row
  shown_value r p None = value_row r.text r.unit Amber (codes "XX")
  shown_value r p (Some z) = value_row r.text r.unit Green (value_text (d.kinds p) z)

  unfoldable pub page_row : PageRow → Option ℕ → Row
  page_row r None = row r.colour r.text
  page_row r (Some p) = shown_value r p (d.values p)

  -- the title in S01 and the rows from S02 on; blank rows where there is no page
  unfoldable pub page_rows : Option Page → List Row
  page_rows None = zone DISPLAY_ROWS []
  page_rows (Some p) = zone DISPLAY_ROWS (row White p.title ∷ map (λ (r : PageRow). page_row r r.show) p.rows)

  -- the page that the situation calls for: that of the first shown alert, else the first of the phase
  unfoldable pub called_page : Option Page
  called_page = option_or (option_and_then (slice_get d.pages) d.alert_page) (find (λ (p : Page). in_set p.phases d.phase) d.pages)

  -- S01 to S18
  unfoldable pub display_rows : Choice → List Row
  display_rows Auto = page_rows called_page
  display_rows (PageChoice i) = page_rows (slice_get d.pages i)
  display_rows (Status q) = status_page q d.status
