use Rattle.std.proofs.Common.{refl}
use Rattle.ecam_spec.specs.Opened.{opened}
use Rattle.worked_rows.proofs.pages.values_of_each_kind.Goals as goal

pub returns : goal.returns
unfolding opened
returns c = refl
