-- Which fault the bytes of a limits file have, and the limits that they are where they have none.
use Rattle.std.specs.Prelude.{ℕ, nat_le, List, length, Option, Some, None, is_none, if◌then◌else◌}
use Rattle.toml.specs.Data.{Members}
use Rattle.ecam_spec.specs.Book.{Text, Book}
use Rattle.book_spec.specs.BookBytes.{table_of_text}
use Rattle.view_spec.specs.Advisories.{Advisory}
use Rattle.limits_spec.specs.Document.{table_fault}
use Rattle.limits_spec.specs.LimitsOf.{limits_of}
use Rattle.limits_spec.specs.declared.form.TheConstants.{LIMITS_BYTES}
use Rattle.limits_spec.specs.declared.form.LimitsFault.{LimitsFault}

-- a fault of the file as a whole
abbrev pub top_fault : ℕ → LimitsFault
top_fault code = record { code = code; item = 0 }

-- the fault that the table shows, if the bytes are a document
abbrev pub document_fault : Book → Option Members → Option LimitsFault
document_fault b None = Some (top_fault 2)
document_fault b (Some top) = table_fault b top

-- the first fault of the bytes
unfoldable pub limits_fault : Book → Text → Option LimitsFault
limits_fault b bytes = if nat_le (length bytes) LIMITS_BYTES then document_fault b (table_of_text bytes) else Some (top_fault 1)

-- the limits that the bytes are, where they have no fault
abbrev pub document_limits : Book → Option Members → Option (List Advisory)
document_limits b None = None
document_limits b (Some top) = if is_none (table_fault b top) then Some (limits_of b top) else None

unfoldable pub limits : Book → Text → Option (List Advisory)
limits b bytes = if nat_le (length bytes) LIMITS_BYTES then document_limits b (table_of_text bytes) else None
