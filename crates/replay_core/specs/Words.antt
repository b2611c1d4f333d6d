-- What a command of the program asks for, as the definitions speak of it.
use Rattle.std.specs.Prelude.{◌≤◌}
use Rattle.ecam_spec.specs.Command as spec
use Rattle.replay_core.specs.declared.words.Command.{Command}
use Rattle.replay_core.specs.declared.words.Command.TheVariants.{Check, Replay, Why, Drill, Migrate, Callouts, Advise, Report, Words}

abbrev pub asked : Command → spec.Command
asked (Check book) = spec.check book.now
asked (Replay book record' limit) = spec.replay book.now record'.now limit
asked (Why book record') = spec.why book.now record'.now
asked (Drill book seed moments) = spec.drill book.now seed moments
asked (Migrate book) = spec.migrate book.now
asked (Callouts book record' parameter) = spec.callouts book.now record'.now parameter.now
asked (Advise book record' limits) = spec.advise book.now record'.now limits.now
asked (Report book record') = spec.report book.now record'.now
asked (Words book record') = spec.words book.now record'.now

-- a drill has at most a million moments
abbrev pub IsShort : Command → Type 0
IsShort (Drill book seed moments) = moments ≤ 1000000
IsShort (Check book) = Unit {0}
IsShort (Replay book record' limit) = Unit {0}
IsShort (Why book record') = Unit {0}
IsShort (Migrate book) = Unit {0}
IsShort (Callouts book record' parameter) = Unit {0}
IsShort (Advise book record' limits) = Unit {0}
IsShort (Report book record') = Unit {0}
IsShort (Words book record') = Unit {0}
