-- What a book without a fault is: a document without one, whose draft has none.
use Rattle.std.proofs.Common.{◌≡◌, ℕ, ◌≤◌, Bool, true, false, leb, length, Option, Some, None, refl, ap, sym, ◌∙◌, arith}
use Rattle.std.specs.Prelude.{is_none, if◌then◌else◌}
use Rattle.std.proofs.lemmas.Bool.Decides.{nat_tests}
use Rattle.toml.specs.Data.{Members}
use Rattle.ecam_spec.specs.declared.limits.TheConstants.{BOOK_BYTES}
use Rattle.ecam_spec.specs.declared.kinds.BookFault.{BookFault}
use Rattle.ecam_spec.specs.Book.{Text}
use Rattle.ecam_spec.specs.Draft.{Draft}
use Rattle.ecam_spec.specs.DraftFaults.{draft_fault}
use Rattle.book_spec.specs.Document.{table_fault}
use Rattle.book_spec.specs.DraftOf.{draft_of}
use Rattle.book_spec.specs.BookBytes.{table_of_text, top_fault, document_fault, draft_in, text_fault, draft_of_bytes, fault_after, book_fault, sealed, book}

-- what a text without a fault has
pub record IsAccepted (text : Option Members) : Type 0 where
  pub table : Members
  pub is : text ≡ Some table
  pub table_faultless : table_fault table ≡ None
  pub draft_faultless : draft_fault (draft_of table) ≡ None

-- the fault, by whether the text is short and what it parses to
abbrev fault_of : Bool → Option Members → Option BookFault
fault_of short text = fault_after (if short then draft_in text else None) (if short then document_fault text else Some (top_fault 1))

-- the same, by what the table tells
abbrev fault_with : Option BookFault → Draft → Option BookFault
fault_with told draft = fault_after (if is_none told then Some draft else None) told

short_so : (short : Bool) (text : Option Members) → fault_of short text ≡ None → short ≡ true
short_so true text none = refl
short_so false text none = absurd (cc)

told_none : (told : Option BookFault) (draft : Draft) → fault_with told draft ≡ None → (told ≡ None) × (draft_fault draft ≡ None)
told_none None draft none = (refl, none)
told_none (Some f) draft none = absurd (cc)

accepted_so : (text : Option Members) → fault_of true text ≡ None → IsAccepted text
accepted_so None none = absurd (cc)
accepted_so (Some table) none =
    let parts = told_none (table_fault table) (draft_of table) none in
    record { table = table; is = refl; table_faultless = parts.0; draft_faultless = parts.1 }

pub accepted : (bytes : Text) → book_fault bytes ≡ None → IsAccepted (table_of_text bytes)
unfolding book_fault draft_of_bytes text_fault
accepted bytes none =
    let short = short_so (leb (length bytes) BOOK_BYTES) (table_of_text bytes) none in
    accepted_so (table_of_text bytes) (sym (ap (λ b. fault_of b (table_of_text bytes)) short) ∙ none)

some_same : (a b : Members) → Some a ≡ Some b → a ≡ b
some_same a b same = cc

-- the table of a text without a fault has none, nor has its draft
pub faultless : (bytes : Text) (table : Members) → book_fault bytes ≡ None → table_of_text bytes ≡ Some table → (table_fault table ≡ None) × (draft_fault (draft_of table) ≡ None)
faultless bytes table none is =
    let has = accepted bytes none in
    let same = some_same has.table table (sym has.is ∙ is) in
    (sym (ap table_fault same) ∙ has.table_faultless, sym (ap (λ t. draft_fault (draft_of t)) same) ∙ has.draft_faultless)

is_short : (n : ℕ) → n ≤ BOOK_BYTES → leb n BOOK_BYTES ≡ true
is_short n h = grind (arith, nat_tests)

faultless_draft : (table : Members) → table_fault table ≡ None → draft_in (Some table) ≡ Some (draft_of table)
faultless_draft table none = rw none refl

-- a short text's draft
pub drafted : (text : Text) (table : Members) → length text ≤ BOOK_BYTES → table_of_text text ≡ Some table → table_fault table ≡ None → draft_of_bytes text ≡ Some (draft_of table)
unfolding draft_of_bytes
drafted text table short is none =
    let few = is_short (length text) short in
    ap (λ b. if b then draft_in (table_of_text text) else None) few ∙ ap draft_in is ∙ faultless_draft table none

pub short_book : (bytes : Text) → book_fault bytes ≡ None → length bytes ≤ BOOK_BYTES
unfolding book_fault draft_of_bytes text_fault
short_book bytes none =
    let short = short_so (leb (length bytes) BOOK_BYTES) (table_of_text bytes) none in
    grind (arith, nat_tests)

pub fault_of_draft : (text : Text) (draft : Draft) → draft_of_bytes text ≡ Some draft → book_fault text ≡ draft_fault draft
unfolding book_fault
fault_of_draft text draft is = ap (λ d. fault_after d (text_fault text)) is

pub book_of_draft : (text : Text) (draft : Draft) → draft_of_bytes text ≡ Some draft → book text ≡ sealed (Some draft)
unfolding book
book_of_draft text draft is = ap sealed is
