-- The draft that the bytes of a book are keeps its limits.
use Rattle.std.proofs.Common.{◌≡◌, Bool, true, false, length, Option, Some, None, refl, subst}
use Rattle.std.specs.Prelude.{nat_le, is_none, if◌then◌else◌}
use Rattle.ecam_spec.specs.declared.limits.TheConstants.{BOOK_BYTES}
use Rattle.toml.specs.Data.{Members}
use Rattle.ecam_spec.specs.declared.kinds.BookFault.{BookFault}
use Rattle.ecam_spec.specs.Book.{Text}
use Rattle.ecam_spec.specs.Draft.{Draft}
use Rattle.ecam_spec.specs.KeepsLimits.{IsSound}
use Rattle.book_spec.specs.Document.{table_fault}
use Rattle.book_spec.specs.DraftOf.{draft_of}
use Rattle.book_spec.specs.BookBytes.{table_of_text, draft_in, draft_of_bytes}
use Rattle.book_spec.proofs.DocumentSound.{document_sound}

-- a draft is there only where the table shows no fault
faultless_draft : (top : Members) (fault : Option BookFault) → table_fault top ≡ fault → (d : Draft) → (if is_none fault then Some (draft_of top) else None) ≡ Some d → IsSound d
faultless_draft top None told d h = let same : draft_of top ≡ d = cc in subst IsSound same (document_sound top told)
faultless_draft top (Some fault) told d h = absurd (cc)

draft_in_sound : (table : Option Members) (d : Draft) → draft_in table ≡ Some d → IsSound d
draft_in_sound None d h = absurd (cc)
draft_in_sound (Some top) d h = faultless_draft top (table_fault top) refl d h

short_draft : (short : Bool) (table : Option Members) (d : Draft) → (if short then draft_in table else None) ≡ Some d → IsSound d
short_draft true table d h = draft_in_sound table d h
short_draft false table d h = absurd (cc)

pub draft_of_bytes_sound : (bytes : Text) (d : Draft) → draft_of_bytes bytes ≡ Some d → IsSound d
unfolding draft_of_bytes
draft_of_bytes_sound bytes d h = short_draft (nat_le (length bytes) BOOK_BYTES) (table_of_text bytes) d h
