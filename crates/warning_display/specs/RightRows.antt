-- The right zone by any tests that say which alerts are starred and which memos hold.
use Rattle.std.specs.Prelude.{◌≡◌, ℕ, Bool, false, ◌&&◌, ◌==◌, List, [], ◌∷◌, map, filter, length, get_or}
use Rattle.std.specs.List.{list_any}
use Rattle.ecam_spec.specs.declared.kinds.Colour.TheVariants.{Amber}
use Rattle.ecam_spec.specs.Places.{below}
use Rattle.ecam_spec.specs.Book.{Text, Memo, Book}
use Rattle.ecam_spec.specs.Picture.{Row, row}
use Rattle.ecam_spec.specs.RightZone.{right_rows, right_zone, right_beyond}
use Rattle.ecam_spec.specs.Situation.{alert_at}
use Rattle.ecam_spec.specs.Screen.{alert_numbers}
use Rattle.zone_rows.specs.Tracked.{TrackedRows}
use Rattle.zone_rows.specs.Mended.{Mends}
use Rattle.book_model.specs.Told.{flagged}
use Rattle.warning_display.specs.Memos.{memo_rows}

-- one of these alerts of the system is starred
abbrev pub is_marked : Book → (ℕ → Bool) → List ℕ → ℕ → Bool
is_marked b starred alerts s = list_any (λ a. (alert_at b a).system == s && starred a) alerts

-- the systems of which an alert is starred, in the book's order
abbrev pub starred_names : Book → (ℕ → Bool) → List Text
starred_names b starred =
    map (λ s. get_or b.systems s []) (filter (is_marked b starred (alert_numbers b)) (below (length b.systems)))

abbrev pub system_row : Text → Row
system_row name = row Amber (42 ∷ name)

-- the rows of the first n of these systems that are marked
abbrev pub marked_rows : List Text → List Bool → ℕ → List Row
marked_rows names marks n = map (λ s. system_row (get_or names s [])) (filter (flagged marks) (below n))

-- all rows of the right zone
unfoldable pub right_of : Book → (ℕ → Bool) → (Memo → Bool) → List Row
right_of b starred holds = right_rows (starred_names b starred) (memo_rows false holds b.memos)

-- the right zone shows the first seven of these rows, and so many stand beyond
pub record FillsRight (right : List Row) (count : ℕ) (old new : TrackedRows) : Type 0 where
  pub rows : Mends 7 (right_zone right) old new
  pub beyond : count ≡ right_beyond right
