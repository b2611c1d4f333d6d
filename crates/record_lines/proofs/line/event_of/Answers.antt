-- A line of no letter, or with another second byte, has no form.
use Rattle.std.proofs.Common.{sym, arith}
use Rattle.record_lines.proofs.Forms.{event_of-empty, event_of-far}
use Rattle.record_lines.proofs.line.event_of.Goals as goal

pub returns-in_default : goal.returns-in_default
returns-in_default c = sym (event_of-empty c.args.line.now (omega arith))

pub returns-in_default-2 : goal.returns-in_default-2
returns-in_default-2 c = sym (event_of-far c.args.line.now (λ h. omega arith) (λ h. omega arith))
