use Rattle.std.proofs.Common.{arith}
use Rattle.record_lines.proofs.Numbers.{worth_at}
use Rattle.record_lines.proofs.common.worth_in.Goals as goal

pub returns : goal.returns
returns c = λ place is. rw (is, c.from.ensures) (worth_at place c.args.digit (omega arith))
