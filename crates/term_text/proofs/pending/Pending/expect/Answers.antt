use Rattle.std.proofs.Common.{arith}
use Rattle.std.proofs.lemmas.Grind.{common_steps}
use Rattle.std.proofs.lemmas.List.{reverse-append}
use Rattle.term_text.proofs.pending.Pending.expect.Goals as goal

pub returns : goal.returns
returns c = grind (arith, common_steps, reverse-append c.args.self.now.stack.items c.args.parts.now)
