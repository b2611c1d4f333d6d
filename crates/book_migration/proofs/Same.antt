-- The migration of a book is the book.
use Rattle.std.proofs.Common.{◌≡◌, ◌≤◌, length, Some, None, ap, sym, ◌∙◌}
use Rattle.toml.specs.Data.{Members}
use Rattle.ecam_spec.specs.declared.limits.TheConstants.{BOOK_BYTES}
use Rattle.ecam_spec.specs.Book.{Text}
use Rattle.ecam_spec.specs.DraftFaults.{draft_fault}
use Rattle.book_spec.specs.BookBytes.{draft_of_bytes, book_fault, book}
use Rattle.book_spec.specs.Document.{table_fault}
use Rattle.book_spec.specs.DraftOf.{draft_of}
use Rattle.book_migration.specs.Migrated.{in_version_2}
use Rattle.book_migration.specs.Migration.{IsMigration}
use Rattle.book_migration.proofs.SameParts.{draft_same}
use Rattle.book_migration.proofs.SameFaults.{second_faultless}
use Rattle.book_migration.proofs.Accepted.{faultless, short_book, drafted, fault_of_draft, book_of_draft}

module _ (bytes text : Text) (none : book_fault bytes ≡ None) (told : IsMigration bytes text) (short : length text ≤ BOOK_BYTES) where
  abbrev table : Members
  table = told.table

  whole : (table_fault table ≡ None) × (draft_fault (draft_of table) ≡ None)
  whole = faultless bytes table none told.parsed

  -- both are this draft
  was : draft_of_bytes bytes ≡ Some (draft_of table)
  was = drafted bytes table (short_book bytes none) told.parsed whole.0

  now_is : draft_of_bytes text ≡ Some (draft_of table)
  now_is = drafted text (in_version_2 table) short told.written (second_faultless table whole.0) ∙ ap Some (draft_same table)

  pub same_faultless : book_fault text ≡ None
  same_faultless = fault_of_draft text (draft_of table) now_is ∙ whole.1

  pub same_book : book text ≡ book bytes
  same_book = book_of_draft text (draft_of table) now_is ∙ sym (book_of_draft bytes (draft_of table) was)
