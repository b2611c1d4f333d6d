-- Which rows of a picture differ from those of the picture before.
use Rattle.std.specs.Prelude.{◌≡◌, ℕ, zero, suc, ◌<◌, Bool, false, not, List, get_or}
use Rattle.ecam_spec.specs.declared.limits.TheConstants.{PICTURE_ROWS}
use Rattle.ecam_spec.specs.Picture.{Picture, blank_row, same_row}
use Rattle.ecam_spec.specs.Output.{picture_before}

-- row i isn't the same in both
abbrev pub row_differs : Picture → Picture → ℕ → Bool
row_differs old new i = not (same_row (get_or old i blank_row) (get_or new i blank_row))

-- row i of the last of the first k pictures isn't what it was in the one before, which is blank before the first;
-- before the first picture no row has changed
unfoldable pub row_changed : (ℕ → Picture) → ℕ → ℕ → Bool
row_changed pictures zero i = false
row_changed pictures (suc k) i = row_differs (picture_before pictures k) (pictures k) i

-- the flags tell which rows changed
abbrev pub TellsRows : (ℕ → Picture) → ℕ → List Bool → Type 0
TellsRows pictures k flags = (i : ℕ) → i < PICTURE_ROWS → get_or flags i false ≡ row_changed pictures k i

-- no row is told as changed
abbrev pub NoneChanged : List Bool → Type 0
NoneChanged flags = (i : ℕ) → i < PICTURE_ROWS → get_or flags i false ≡ false
