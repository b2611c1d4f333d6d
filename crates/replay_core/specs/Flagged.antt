-- The rows of a picture that are told as changed.
use Rattle.std.specs.Prelude.{◌≡◌, ℕ, ◌<◌, Bool, false, List, [], ◌∷◌, ◌++◌, length, drop, get_or}
use Rattle.std.specs.Prelude.{if◌then◌else◌}
use Rattle.ecam_spec.specs.declared.limits.TheConstants.{PICTURE_ROWS}
use Rattle.ecam_spec.specs.Book.{Text}
use Rattle.ecam_spec.specs.Picture.{Picture}
use Rattle.ecam_spec.specs.Output.{row_line, row_names}
use Rattle.ecam_kinds.specs.declared.picture.Row.{Row}
use Rattle.ecam_kinds.specs.Shown.{rows_of}
use Rattle.fwc_lane.specs.ChangedRows.{row_differs}

-- the lines of the rows whose flag is set
unfoldable pub flagged_lines : List Text → List Bool → Picture → Text
flagged_lines (name ∷ names) (flag ∷ flags) (r ∷ rows) =
    (if flag then row_line name r else []) ++ flagged_lines names flags rows
flagged_lines _ _ _ = []

-- the lines of the rows of a picture from row i on whose flag is set
abbrev pub lines_from : ℕ → List Bool → List Row → Text
lines_from i flags rows =
    flagged_lines (drop i row_names) (drop i flags) (rows_of (drop i rows))

-- the flags name exactly the rows in which a picture differs from the old one
pub record NamesRows (old new : Picture) (flags : List Bool) : Type 0 where
  pub old_whole : length old ≡ PICTURE_ROWS
  pub new_whole : length new ≡ PICTURE_ROWS
  pub each : (i : ℕ) → i < PICTURE_ROWS → get_or flags i false ≡ row_differs old new i
