-- What the migration of a book is.
use Rattle.std.specs.Prelude.{◌≡◌, Some}
use Rattle.toml.specs.Data.{Members}
use Rattle.ecam_spec.specs.Book.{Text}
use Rattle.book_spec.specs.BookBytes.{table_of_text}
use Rattle.book_migration.specs.Migrated.{in_version_2}

-- the text is a document, whose table is that of the book with `version` 2
pub record IsMigration (bytes text : Text) : Type 0 where
  pub table : Members
  pub parsed : table_of_text bytes ≡ Some table
  pub written : table_of_text text ≡ Some (in_version_2 table)
