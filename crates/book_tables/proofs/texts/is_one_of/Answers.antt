use Rattle.std.proofs.Common.{arith}
use Rattle.std.proofs.lemmas.Grind.{common_steps}
use Rattle.book_tables.proofs.Items.{any_text}
use Rattle.book_tables.proofs.texts.is_one_of.Goals as goal

pub returns-then-eq : goal.returns-then-eq
returns-then-eq c = grind (arith, common_steps, any_text c.args.text.now c.args.known.now)

pub returns : goal.returns
returns c = grind (arith, common_steps, any_text c.args.text.now c.args.known.now)
