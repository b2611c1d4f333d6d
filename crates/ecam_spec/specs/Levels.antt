-- The levels of alerts: a warning (3), and the cautions (2 and 1). The levels are the A320's (DSC-31); that
-- level 1 counts as a caution is this project's own.
use Rattle.std.specs.Prelude.{Bool, true, false, not}
use Rattle.ecam_spec.specs.declared.kinds.Level.{Level}
use Rattle.ecam_spec.specs.declared.kinds.Level.TheVariants.{One, Two, Three}

abbrev pub is_three : Level → Bool
is_three Three = true
is_three _ = false

abbrev pub is_two : Level → Bool
is_two Two = true
is_two _ = false

abbrev pub is_one : Level → Bool
is_one One = true
is_one _ = false

abbrev pub is_caution_level : Level → Bool
is_caution_level l = not (is_three l)
