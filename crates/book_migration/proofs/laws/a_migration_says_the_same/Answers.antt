use Rattle.book_migration.proofs.Same.{same_faultless, same_book}
use Rattle.book_migration.proofs.laws.a_migration_says_the_same.Goals as goal

pub returns-clause-faultless : goal.returns-clause-faultless
returns-clause-faultless c bytes text none told short = same_faultless bytes text none told short

pub returns-clause-same : goal.returns-clause-same
returns-clause-same c bytes text none told short = same_book bytes text none told short
