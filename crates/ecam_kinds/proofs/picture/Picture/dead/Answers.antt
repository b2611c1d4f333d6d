use Rattle.ecam_kinds.proofs.Rows.{dead_rows}
use Rattle.ecam_kinds.proofs.picture.Picture.dead.Goals as goal

pub returns : goal.returns
returns c = dead_rows c.blank-picture.result.rows c.new.result c.blank-picture.ensures c.new.ensures
