use Rattle.std.proofs.Common.{refl}
use Rattle.ecam_spec.specs.Opened.{opened}
use Rattle.worked_rows.proofs.lamps.a_press_in_the_moment_of_an_onset.Goals as goal

pub returns : goal.returns
unfolding opened
returns c = refl
