use Rattle.std.proofs.Common.{refl}
use Rattle.ecam_spec.specs.Opened.{opened}
use Rattle.worked_rows.proofs.status.each_section_has_its_colour.Goals as goal

pub returns : goal.returns
unfolding opened
returns c = refl
