use Rattle.ecam_spec.specs.Picture as spec
use Rattle.ecam_kinds.proofs.Rows.{blank_rows}
use Rattle.ecam_kinds.proofs.picture.Picture.blank.Goals as goal

pub returns : goal.returns
unfolding spec.blank
returns c = blank_rows c.default.result 36 c.default.ensures.long c.default.ensures.at
