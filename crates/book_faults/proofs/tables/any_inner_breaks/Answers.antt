use Rattle.std.proofs.Common.{arith}
use Rattle.std.proofs.lemmas.Grind.{common_steps}
use Rattle.book_faults.specs.Asked.{inner_fails}
use Rattle.book_tables.specs.Catalogue.{names_in}
use Rattle.book_tables.proofs.Items.{any_views}
use Rattle.book_faults.proofs.tables.any_inner_breaks.Goals as goal

pub returns-then-branch : goal.returns-then-branch
returns-then-branch c = grind (arith, common_steps, any_views (inner_fails (names_in c.args.names.now) c.args.asked c.args.inner) c.args.values.now)

pub returns : goal.returns
returns c = grind (arith, common_steps, any_views (inner_fails (names_in c.args.names.now) c.args.asked c.args.inner) c.args.values.now)
