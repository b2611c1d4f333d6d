-- The status page by any tests that say which alerts are active and which cancelled.
use Rattle.std.specs.Prelude.{◌≡◌, ◌↔◌, ◌<◌, ℕ, Bool, false, List, [], length, map, filter}
use Rattle.ecam_spec.specs.Book.{Book}
use Rattle.ecam_spec.specs.Picture.{Row}
use Rattle.ecam_spec.specs.StatusPage.{status_rows}
use Rattle.ecam_spec.specs.Situation.{alert_at}
use Rattle.ecam_spec.specs.Screen.{alert_numbers}

-- all rows of the status page, where the alerts at these places are active
abbrev pub rows_at : Book → List ℕ → (ℕ → Bool) → List Row
rows_at b places cancelled = status_rows (map (alert_at b) places) (map (alert_at b) (filter cancelled places))

-- where all alerts of the book that pass a test are active
unfoldable pub status_of : Book → (ℕ → Bool) → (ℕ → Bool) → List Row
status_of b active cancelled = rows_at b (filter active (alert_numbers b)) cancelled

-- this tells whether any alert of the book has status lines
unfoldable pub TellsStatusLines : Book → Bool → Type 0
TellsStatusLines b told = (told ≡ false) ↔ ((a : ℕ) → a < length b.alerts → (alert_at b a).status ≡ [])
