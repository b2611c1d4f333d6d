-- The left zone: the shown alerts with their procedures, or NORMAL, or the left memos. The outline is the
-- A320's (DSC-31); the layout is this project's own.
use Rattle.std.specs.Prelude.{ℕ, ◌+◌, Bool, true, false, nat_lt, List, [], ◌∷◌, map, length, drop, filter, count_by, position, Option, Some, None, is_some, option_map, codes}
use Rattle.ecam_spec.specs.declared.kinds.Colour.{Colour}
use Rattle.ecam_spec.specs.declared.kinds.Colour.TheVariants.{Red, Amber, Green}
use Rattle.ecam_spec.specs.declared.kinds.Level.{Level}
use Rattle.ecam_spec.specs.declared.kinds.Level.TheVariants.{Three}
use Rattle.ecam_spec.specs.declared.limits.TheConstants.{ZONE_ROWS}
use Rattle.ecam_spec.specs.Book.{Line, Alert}
use Rattle.ecam_spec.specs.Crew.{is_alert}
use Rattle.ecam_spec.specs.Picture.{Row, row, zone}

-- a row of the left zone, and the alert whose title it is, if it is one
pub record LeftRow : Type 0 where
  pub row : Row
  pub title_of : Option ℕ

abbrev pub plain : Row → LeftRow
plain r = record { row = r; title_of = None }

-- a title is red for level 3, else amber
abbrev pub title_colour : Level → Colour
title_colour Three = Red
title_colour _ = Amber

-- the title of alert number a, and the lines of its procedure that stand
unfoldable pub alert_rows : (Line → Bool) → ℕ → Alert → List LeftRow
alert_rows stands a alert =
    record { row = row (title_colour alert.level) alert.title; title_of = Some a }
    ∷ map (λ (l : Line). plain (row l.colour l.text)) (filter stands alert.lines)

-- all rows of the left zone, the eighth and those after it too: those of the shown alerts; where nothing is
-- shown, NORMAL or the memos
unfoldable pub left_rows : List LeftRow → Bool → List Row → List LeftRow
left_rows [] true memos = plain (row Green (codes "NORMAL")) ∷ []
left_rows [] false memos = map plain memos
left_rows (r ∷ rows) normal memos = r ∷ rows

-- L1 to L7
unfoldable pub left_zone : List LeftRow → List Row
left_zone rows = zone ZONE_ROWS (map (λ (r : LeftRow). r.row) rows)

-- there are more than seven rows
unfoldable pub has_more : List LeftRow → Bool
has_more rows = nat_lt ZONE_ROWS (length rows)

-- OVF: how many titles stand beyond the seventh row
unfoldable pub overflow : List LeftRow → ℕ
overflow rows = count_by (λ (r : LeftRow). is_some r.title_of) (drop ZONE_ROWS rows)

-- the row of an alert's title, from 1
unfoldable pub title_row : ℕ → List LeftRow → Option ℕ
title_row a rows = option_map (λ i. i + 1) (position (λ (r : LeftRow). is_alert a r.title_of) rows)
