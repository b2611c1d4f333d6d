use Rattle.std.proofs.Common.{refl}
use Rattle.ecam_spec.specs.Screen.{left_in, memo_rows}
use Rattle.warning_display.specs.LeftRows.{left_of}
use Rattle.warning_display.proofs.laws.the_left_zone_is_that_of_the_moment.Goals as goal

pub returns : goal.returns
unfolding left_in memo_rows left_of
returns c = λ b m k. refl
