-- Rows put into a zone of seven, where those beyond the seventh are counted too.
use Rattle.std.specs.Prelude.{◌≡◌, ℕ, ◌+◌, min, List, length}
use Rattle.ecam_spec.specs.Picture.{Row}
use Rattle.zone_rows.specs.Tracked.{TrackedRows}
use Rattle.zone_rows.specs.Mended.{Appends}

-- behind `total` rows these are put, and they are `later` then
pub record Adds (first : ℕ) (more : List Row) (total later : ℕ) (old new : TrackedRows) : Type 0 where
  pub rows : Appends first 7 more (min total 8) (min later 8) old new
  pub count : later ≡ total + length more
