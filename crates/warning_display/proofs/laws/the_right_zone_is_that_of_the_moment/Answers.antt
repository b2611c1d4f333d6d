use Rattle.std.proofs.Common.{refl}
use Rattle.ecam_spec.specs.Screen.{right_in, memo_rows, starred_systems}
use Rattle.warning_display.specs.RightRows.{right_of}
use Rattle.warning_display.proofs.laws.the_right_zone_is_that_of_the_moment.Goals as goal

pub returns : goal.returns
unfolding right_in memo_rows starred_systems right_of
returns c = λ b m k. refl
