-- The memos of a zone that hold, by any test that says which hold.
use Rattle.std.specs.Prelude.{Bool, true, false, not, ◌&&◌, List, map, filter}
use Rattle.ecam_spec.specs.Book.{Memo}
use Rattle.ecam_spec.specs.Picture.{Row, row}

-- it stands in the left zone, or in the right
abbrev pub is_of : Bool → Memo → Bool
is_of true m = m.left
is_of false m = not m.left

abbrev pub memo_row : Memo → Row
memo_row m = row m.colour m.text

abbrev pub memo_rows : Bool → (Memo → Bool) → List Memo → List Row
memo_rows left holds memos = map memo_row (filter (λ m. is_of left m && holds m) memos)
