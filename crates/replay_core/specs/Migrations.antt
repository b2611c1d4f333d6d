-- What `migrate` makes of a book's file.
use Rattle.std.specs.Prelude.{◌≡◌, [], Option, Some, None}
use Rattle.ecam_spec.specs.Book.{Text}
use Rattle.book_spec.specs.BookBytes.{book_fault}
use Rattle.book_migration.specs.Migration.{IsMigration}

-- the bytes of the file, which was read to its end, are a book, and the text is that book in version 2
pub record IsMigrated (text : Text) (left : Option Text) (bytes : Text) : Type 0 where
  pub faultless : book_fault bytes ≡ None
  pub migration : IsMigration bytes text
  pub spent : left ≡ Some []

-- there is such a text of which this holds
pub record HasMigrated (P : Text → Type 0) (left : Option Text) (bytes : Text) : Type 0 where
  pub text : Text
  pub migrated : IsMigrated text left bytes
  pub holds : P text
