use Rattle.std.proofs.Common.{arith}
use Rattle.record_lines.proofs.CommonLines.{tick_line}
use Rattle.record_lines.proofs.common.is_tick_line.Goals as goal

pub returns-in-84 : goal.returns-in-84
returns-in-84 c = λ _. tick_line c.args.bytes.now (omega arith) (omega arith) (omega arith)
