-- The rows of a picture that is mended in place, and for each whether it changed.
use Rattle.std.specs.Prelude.{◌≡◌, ℕ, ◌<◌, Bool, false, not, ◌||◌, List, length, get_or}
use Rattle.ecam_spec.specs.declared.limits.TheConstants.{PICTURE_ROWS}
use Rattle.ecam_spec.specs.Picture as spec
use Rattle.ecam_kinds.specs.declared.picture.Row.{Row}
use Rattle.ecam_kinds.specs.Shown.{rows_of}

pub record TrackedRows : Type 0 where
  pub rows : List spec.Row
  pub changed : List Bool

abbrev pub tracked : List Row → List Bool → TrackedRows
tracked rows changed = record { rows = rows_of rows; changed = changed }

-- these are the rows of a whole picture
pub record IsWhole (t : TrackedRows) : Type 0 where
  pub rows : length t.rows ≡ PICTURE_ROWS
  pub changed : length t.changed ≡ PICTURE_ROWS

abbrev pub row_at : TrackedRows → ℕ → spec.Row
row_at t i = get_or t.rows i spec.blank_row

abbrev pub changed_at : TrackedRows → ℕ → Bool
changed_at t i = get_or t.changed i false

-- row i isn't what it was
abbrev pub differs : TrackedRows → TrackedRows → ℕ → Bool
differs old new i = not (spec.same_row (row_at old i) (row_at new i))

-- a row counts as changed exactly where it counted before or differs from what it was
abbrev pub TellsChanges : TrackedRows → TrackedRows → Type 0
TellsChanges old new = (i : ℕ) → i < PICTURE_ROWS → changed_at new i ≡ (changed_at old i || differs old new i)
