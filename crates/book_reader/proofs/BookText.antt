-- The fault and the draft that bytes are, by their length, their encoding and what they parse to.
use Rattle.std.proofs.Common.{◌≡◌, ℕ, ◌<◌, ◌≤◌, true, false, leb, List, length, Some, None, refl, ap, ◌∙◌, inl, inr, arith}
use Rattle.std.specs.Str.{IsUtf8, is_utf8}
use Rattle.std.proofs.lemmas.Bool.{cases_Bool}
use Rattle.std.proofs.lemmas.Bool.Decides.{nat_tests}
use Rattle.std.proofs.lemmas.Str.{IsUtf8-from_is_utf8, is_utf8-from_IsUtf8}
use Rattle.ecam_spec.specs.declared.limits.TheConstants.{BOOK_BYTES}
use Rattle.toml.specs.Data.{Members}
use Rattle.toml.specs.Parse.{parse_document}
use Rattle.ecam_spec.specs.declared.kinds.BookFault.{BookFault}
use Rattle.book_spec.specs.Document.{table_fault}
use Rattle.book_spec.specs.DraftOf.{draft_of}
use Rattle.book_spec.specs.BookBytes.{table_of_text, top_fault, document_fault, draft_in, text_fault, draft_of_bytes}

is_short : (n : ℕ) → n ≤ BOOK_BYTES → leb n BOOK_BYTES ≡ true
is_short n h = grind (arith, nat_tests)

is_long : (n : ℕ) → BOOK_BYTES < n → leb n BOOK_BYTES ≡ false
is_long n h = grind (arith, nat_tests)

module _ (bytes : List ℕ) where
  pub parsed : IsUtf8 bytes → table_of_text bytes ≡ parse_document bytes
  parsed text = rw (is_utf8-from_IsUtf8 bytes text) refl

  no_text : is_utf8 bytes ≡ false → table_of_text bytes ≡ None
  no_text other = rw other refl

  pub unparsed : (IsUtf8 bytes → parse_document bytes ≡ None) → table_of_text bytes ≡ None
  unparsed none =
      elim (cases_Bool (is_utf8 bytes)) [
        | inl text ↦ (let is = IsUtf8-from_is_utf8 bytes text in parsed is ∙ none is)
        | inr other ↦ no_text other
      ]

  pub too_long : BOOK_BYTES < length bytes → text_fault bytes ≡ Some (top_fault 1)
  unfolding text_fault
  too_long long = rw (is_long (length bytes) long) refl

  short_fault : length bytes ≤ BOOK_BYTES → text_fault bytes ≡ document_fault (table_of_text bytes)
  unfolding text_fault
  short_fault short = rw (is_short (length bytes) short) refl

  short_draft : length bytes ≤ BOOK_BYTES → draft_of_bytes bytes ≡ draft_in (table_of_text bytes)
  unfolding draft_of_bytes
  short_draft short = rw (is_short (length bytes) short) refl

  pub no_document : length bytes ≤ BOOK_BYTES → table_of_text bytes ≡ None → text_fault bytes ≡ Some (top_fault 2)
  no_document short none = short_fault short ∙ ap document_fault none

  module _ (short : length bytes ≤ BOOK_BYTES) (table : Members) (is : table_of_text bytes ≡ Some table) where
    pub faulty : (f : BookFault) → table_fault table ≡ Some f → text_fault bytes ≡ Some f
    faulty f told = short_fault short ∙ ap document_fault is ∙ told

    faultless_draft : table_fault table ≡ None → draft_in (Some table) ≡ Some (draft_of table)
    faultless_draft none = rw none refl

    pub faultless : table_fault table ≡ None → draft_of_bytes bytes ≡ Some (draft_of table)
    faultless none = short_draft short ∙ ap draft_in is ∙ faultless_draft none
