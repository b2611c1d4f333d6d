use Rattle.std.proofs.Common.{arith, not}
use Rattle.std.proofs.lemmas.Grind.{common_steps}
use Rattle.book_spec.specs.Rules.{is_whole_number}
use Rattle.book_tables.proofs.Items.{any_views}
use Rattle.book_faults.proofs.rules.has_other_than_numbers.Goals as goal

pub returns-then-not-is_whole_number : goal.returns-then-not-is_whole_number
returns-then-not-is_whole_number c = grind (arith, common_steps, any_views (λ d. not (is_whole_number d)) c.args.values.now)

pub returns : goal.returns
returns c = grind (arith, common_steps, any_views (λ d. not (is_whole_number d)) c.args.values.now)
