use Rattle.std.proofs.Common.{refl, sym}
use Rattle.ecam_spec.specs.Screen.{display}
use Rattle.system_display.proofs.laws.the_values_are_those_of_the_moment.Goals as goal

pub returns : goal.returns
unfolding display
returns c = λ b m k values told. record { kinds = λ p within. refl; values = λ p within. sym (told p within) }
