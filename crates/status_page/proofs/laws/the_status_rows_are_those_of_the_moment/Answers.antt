use Rattle.std.proofs.Common.{refl}
use Rattle.ecam_spec.specs.Screen.{status_in}
use Rattle.status_page.specs.StatusOf.{status_of}
use Rattle.status_page.proofs.laws.the_status_rows_are_those_of_the_moment.Goals as goal

pub returns : goal.returns
unfolding status_of status_in
returns c = λ b m k. refl
