use Rattle.std.proofs.Common.{arith}
use Rattle.std.proofs.lemmas.Grind.{common_steps}
use Rattle.book_spec.specs.Rules.{number_fails}
use Rattle.book_tables.proofs.Items.{any_views}
use Rattle.book_faults.proofs.rules.has_wrong_phase.Goals as goal

pub returns-then-number_fails : goal.returns-then-number_fails
returns-then-number_fails c = grind (arith, common_steps, any_views (number_fails 1 10) c.args.values.now)

pub returns : goal.returns
returns c = grind (arith, common_steps, any_views (number_fails 1 10) c.args.values.now)
