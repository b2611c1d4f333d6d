use Rattle.book_migration.proofs.SameParts.{draft_same}
use Rattle.book_migration.proofs.SameFaults.{second_faultless}
use Rattle.book_migration.proofs.laws.a_book_says_the_same_in_version_2.Goals as goal

pub returns-clause-faultless : goal.returns-clause-faultless
returns-clause-faultless c top none = second_faultless top none

pub returns-clause-same : goal.returns-clause-same
returns-clause-same c top = draft_same top
