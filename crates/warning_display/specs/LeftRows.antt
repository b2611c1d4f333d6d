-- The left zone by any tests that say which lines stand and which memos hold.
use Rattle.std.specs.Prelude.{◌≡◌, ℕ, Bool, true, List, ◌∷◌, map, filter, flat_map}
use Rattle.ecam_spec.specs.declared.kinds.Level.{Level}
use Rattle.ecam_spec.specs.Book.{Text, Line, Memo, Book}
use Rattle.ecam_spec.specs.Picture.{Row, row}
use Rattle.ecam_spec.specs.LeftZone.{LeftRow, title_colour, alert_rows, left_rows, left_zone, has_more, overflow}
use Rattle.ecam_spec.specs.Situation.{alert_at}
use Rattle.ecam_spec.specs.Screen.{order}
use Rattle.zone_rows.specs.Tracked.{TrackedRows}
use Rattle.zone_rows.specs.Mended.{Mends}
use Rattle.warning_display.specs.Memos.{memo_rows}
use Rattle.warning_display.specs.declared.left.LeftCount.{LeftCount}

abbrev pub line_row : Line → Row
line_row l = row l.colour l.text

abbrev pub line_rows : (Line → Bool) → List Line → List Row
line_rows stands lines = map line_row (filter stands lines)

-- a title, and the lines under it that stand
abbrev pub block : (Line → Bool) → Level → Text → List Line → List Row
block stands level title lines = row (title_colour level) title ∷ line_rows stands lines

abbrev pub rows_in : List LeftRow → List Row
rows_in rows = map (λ (r : LeftRow). r.row) rows

-- an alert's rows
abbrev pub alert_block : Book → (Line → Bool) → ℕ → List Row
alert_block b stands a = rows_in (alert_rows stands a (alert_at b a))

-- the alerts that pass a test, in the order in which they are shown
abbrev pub in_order : Book → (ℕ → Bool) → List ℕ
in_order b shown = filter shown (order b)

-- the rows of some alerts, one after another
abbrev pub blocks : Book → (Line → Bool) → List ℕ → List LeftRow
blocks b stands shown = flat_map (λ a. alert_rows stands a (alert_at b a)) shown

-- all rows of the left zone, where these alerts are shown
unfoldable pub left_of : Book → (Line → Bool) → (Memo → Bool) → List ℕ → Bool → List LeftRow
left_of b stands holds shown normal = left_rows (blocks b stands shown) normal (memo_rows true holds b.memos)

-- the left zone shows the first seven of these rows, and this is counted of those beyond
pub record FillsLeft (left : List LeftRow) (count : LeftCount) (old new : TrackedRows) : Type 0 where
  pub rows : Mends 0 (left_zone left) old new
  pub beyond : count.beyond ≡ overflow left
  pub more : count.more ≡ has_more left
