use Rattle.std.proofs.Common.{ap, ◌∙◌}
use Rattle.toml.specs.View.{table_view}
use Rattle.book_spec.specs.Document.{table_fault}
use Rattle.book_migration.proofs.SameFaults.{second_faultless}
use Rattle.book_migration.proofs.migration.migrated.Goals as goal

pub printed-requires : goal.printed-requires
printed-requires c = ap table_fault c.set_version.ensures ∙ second_faultless (table_view c.in_ok-table.table) c.in_ok-table.ensures.faultless
