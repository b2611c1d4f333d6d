use Rattle.std.proofs.Common.{arith}
use Rattle.book_migration.proofs.Depths.{top_shallow}
use Rattle.book_migration.proofs.laws.a_document_nests_five_deep.Goals as goal

pub returns-clause-depth : goal.returns-clause-depth
returns-clause-depth c top sorted none = omega (arith, (top_shallow top none sorted).0)

pub returns-clause-dates : goal.returns-clause-dates
returns-clause-dates c top sorted none = (top_shallow top none sorted).1
