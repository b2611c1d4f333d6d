-- The right zone: the systems with a failure that a primary failure explains, and the right memos. The outline
-- is the A320's (DSC-31); the layout is this project's own.
use Rattle.std.specs.Prelude.{ℕ, ◌-◌, List, ◌∷◌, ◌++◌, map, length}
use Rattle.ecam_spec.specs.declared.kinds.Colour.TheVariants.{Amber}
use Rattle.ecam_spec.specs.declared.limits.TheConstants.{ZONE_ROWS}
use Rattle.ecam_spec.specs.Book.{Text}
use Rattle.ecam_spec.specs.Picture.{Row, row, zone}

-- all rows of the right zone: the systems that have a starred alert, with an asterisk, and the memos that hold
unfoldable pub right_rows : List Text → List Row → List Row
right_rows systems memos = map (λ s. row Amber (42 ∷ s)) systems ++ memos

-- R1 to R7
unfoldable pub right_zone : List Row → List Row
right_zone rows = zone ZONE_ROWS rows

-- RGT: how many rows stand beyond the seventh
unfoldable pub right_beyond : List Row → ℕ
right_beyond rows = length rows - ZONE_ROWS
