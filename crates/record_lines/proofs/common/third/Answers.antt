use Rattle.std.proofs.Common.{◌≡◌, ◌*◌, refl, arith}
use Rattle.ecam_spec.specs.Places.{below}
use Rattle.ecam_spec.specs.RecordLine.{digit_of}
use Rattle.record_lines.specs.Line.{worth}
use Rattle.record_lines.proofs.CommonLines.{worth_small}
use Rattle.record_lines.proofs.common.third.Goals as goal
use Rattle.record_lines.proofs.common.third.Goals.{After-worth_in}

is : (c : After-worth_in) → c.worth_in.result ≡ 256 * worth c.args.digit
unfolding below worth digit_of
is c = c.worth_in.ensures 256 refl

pub returns-clause-value : goal.returns-clause-value
returns-clause-value c = let same = is c in omega arith

pub returns-clause-bound : goal.returns-clause-bound
returns-clause-bound c = let same = is c in let small = worth_small c.args.digit in omega arith
