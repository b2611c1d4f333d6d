-- Which fault the bytes of a book have, and the book that they are where they have none.
use Rattle.std.specs.Prelude.{ℕ, nat_le, length, Option, Some, None, is_none, if◌then◌else◌}
use Rattle.std.specs.Str.{is_utf8}
use Rattle.toml.specs.Data.{Members}
use Rattle.toml.specs.Parse.{parse_document}
use Rattle.ecam_spec.specs.declared.limits.TheConstants.{BOOK_BYTES}
use Rattle.ecam_spec.specs.declared.kinds.Section.TheVariants.{Top}
use Rattle.ecam_spec.specs.declared.kinds.BookFault.{BookFault}
use Rattle.ecam_spec.specs.Book.{Text, Book}
use Rattle.ecam_spec.specs.Draft.{Draft, book_of}
use Rattle.ecam_spec.specs.DraftFaults.{draft_fault}
use Rattle.book_spec.specs.Document.{table_fault}
use Rattle.book_spec.specs.DraftOf.{draft_of}

-- the table of the document that a text is
abbrev pub table_of_text : Text → Option Members
table_of_text bytes = if is_utf8 bytes then parse_document bytes else None

-- a fault of the book as a whole
abbrev pub top_fault : ℕ → BookFault
top_fault code = record { code = code; section = Top; item = 0 }

-- the fault that the table shows, if the bytes are a document
abbrev pub document_fault : Option Members → Option BookFault
document_fault None = Some (top_fault 2)
document_fault (Some table) = table_fault table

-- the first fault of codes 1 to 19
unfoldable pub text_fault : Text → Option BookFault
text_fault bytes = if nat_le (length bytes) BOOK_BYTES then document_fault (table_of_text bytes) else Some (top_fault 1)

-- the draft that the bytes are, where they have none of these faults
abbrev pub draft_in : Option Members → Option Draft
draft_in None = None
draft_in (Some table) = if is_none (table_fault table) then Some (draft_of table) else None

unfoldable pub draft_of_bytes : Text → Option Draft
draft_of_bytes bytes = if nat_le (length bytes) BOOK_BYTES then draft_in (table_of_text bytes) else None

-- the first fault of the bytes
abbrev pub fault_after : Option Draft → Option BookFault → Option BookFault
fault_after (Some draft) told = draft_fault draft
fault_after None told = told

unfoldable pub book_fault : Text → Option BookFault
book_fault bytes = fault_after (draft_of_bytes bytes) (text_fault bytes)

-- the book that the bytes are, where they have no fault
abbrev pub sealed : Option Draft → Option Book
sealed None = None
sealed (Some draft) = if is_none (draft_fault draft) then Some (book_of draft) else None

unfoldable pub book : Text → Option Book
book bytes = sealed (draft_of_bytes bytes)
