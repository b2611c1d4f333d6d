use Rattle.std.proofs.Common.{refl}
use Rattle.ecam_io.proofs.Counting.{tally-none}
use Rattle.ecam_io.proofs.tally.Tally.new.Goals as goal

pub returns-clause-none : goal.returns-clause-none
returns-clause-none c = tally-none _ refl refl refl refl
