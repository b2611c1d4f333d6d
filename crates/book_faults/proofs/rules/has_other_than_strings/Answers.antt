use Rattle.std.proofs.Common.{arith, not}
use Rattle.std.proofs.lemmas.Grind.{common_steps}
use Rattle.book_spec.specs.Rules.{is_string}
use Rattle.book_tables.proofs.Items.{any_views}
use Rattle.book_faults.proofs.rules.has_other_than_strings.Goals as goal

pub returns-then-not-is_string : goal.returns-then-not-is_string
returns-then-not-is_string c = grind (arith, common_steps, any_views (λ d. not (is_string d)) c.args.values.now)

pub returns : goal.returns
returns c = grind (arith, common_steps, any_views (λ d. not (is_string d)) c.args.values.now)
