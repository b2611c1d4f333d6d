-- What the reading and the sealing of a book's bytes tell of the bytes.
use Rattle.std.proofs.Common.{◌≡◌, ◌<◌, ◌≤◌, true, false, Result, Ok, Err, Option, Some, None, length, take, cond, leb, refl, sym, ap, ◌∙◌, subst, inl, inr, arith}
use Rattle.std.specs.Prelude.{is_none, if◌then◌else◌, IfOk, IfErr}
use Rattle.std.proofs.lemmas.Bool.{lt-leb}
use Rattle.std.proofs.lemmas.Bool.Decides.{leb_tells}
use Rattle.ecam_spec.specs.declared.kinds.BookFault.{BookFault}
use Rattle.ecam_spec.specs.declared.limits.TheConstants.{BOOK_BYTES}
use Rattle.ecam_spec.specs.Book.{Text, Book}
use Rattle.ecam_spec.specs.Draft.{Draft, book_of}
use Rattle.ecam_spec.specs.DraftFaults.{draft_fault}
use Rattle.book_spec.specs.DraftOf.{draft_of}
use Rattle.book_spec.specs.BookBytes.{table_of_text, top_fault, document_fault, text_fault, draft_in, draft_of_bytes, fault_after, book_fault, sealed, book}
use Rattle.book_checker.specs.Sealing.{Refuses}
use Rattle.book_model.specs.Sealed.{the_book}
use Rattle.book_model.specs.declared.draft.Draft as code
use Rattle.book_model.specs.declared.error.LoadError.{LoadError}
use Rattle.book_model.specs.declared.error.LoadError.TheVariants.{Fault, Memory}
use Rattle.replay_core.specs.Loading.{past_book}
use Rattle.replay_core.proofs.Files.{front-same}

-- ---- a book that is too long is told by its first bytes

long-fault : (bytes : Text) → past_book ≤ length bytes → text_fault bytes ≡ Some (top_fault 1)
unfolding text_fault
long-fault bytes long = rw (lt-leb (length bytes) BOOK_BYTES (omega (arith, long))) refl

long-draft : (bytes : Text) → past_book ≤ length bytes → draft_of_bytes bytes ≡ None
unfolding draft_of_bytes
long-draft bytes long = rw (lt-leb (length bytes) BOOK_BYTES (omega (arith, long))) refl

long-book : (bytes : Text) → past_book ≤ length bytes → book bytes ≡ None
unfolding book
long-book bytes long = ap sealed (long-draft bytes long)

long-refused : (bytes : Text) → past_book ≤ length bytes → book_fault bytes ≡ Some (top_fault 1)
unfolding book_fault
long-refused bytes long = ap (λ d. fault_after d (text_fault bytes)) (long-draft bytes long) ∙ long-fault bytes long

-- a book is as short as it may be
pub book-short : (bytes : Text) (b : Book) → book bytes ≡ Some b → length bytes < past_book
book-short bytes b is =
    elim (leb_tells past_book (length bytes)) [
      | inl (_, long) ↦ let none = long-book bytes long in absurd (let w : ⊥ = cc in w)
      | inr (_, short) ↦ short
    ]

pub book-front : (bytes : Text) → book (take past_book bytes) ≡ book bytes
book-front = front-same past_book book None long-book

pub book_fault-front : (bytes : Text) → book_fault (take past_book bytes) ≡ book_fault bytes
book_fault-front = front-same past_book book_fault (Some (top_fault 1)) long-refused

-- ---- what is read and sealed

no-table : (table : _) (f : BookFault) → document_fault table ≡ Some f → draft_in table ≡ None
no-table None f is = refl
no-table (Some table) f is = ap (λ o. cond (is_none o) (Some (draft_of table)) None) is

-- bytes with a fault are no draft
no-draft : (bytes : Text) (f : BookFault) → text_fault bytes ≡ Some f → draft_of_bytes bytes ≡ None
unfolding text_fault draft_of_bytes
no-draft bytes f is =
    (elim (leb (length bytes) BOOK_BYTES) as (λ b. (if b then document_fault (table_of_text bytes) else Some (top_fault 1)) ≡ Some f → (if b then draft_in (table_of_text bytes) else None) ≡ None) [
      | true ↦ λ is. no-table (table_of_text bytes) f is
      | false ↦ λ is. refl
    ])
    is

-- a fault that is read is the book's
pub read-refused : (bytes : Text) (f : BookFault) → text_fault bytes ≡ Some f → book_fault bytes ≡ Some f
unfolding book_fault
read-refused bytes f is = ap (λ d. fault_after d (text_fault bytes)) (no-draft bytes f is) ∙ is

module _ (bytes : Text) (d : Draft) (is : draft_of_bytes bytes ≡ Some d) where
  -- a fault of the draft is the book's
  pub seal-refused : (f : BookFault) → draft_fault d ≡ Some f → book_fault bytes ≡ Some f
  unfolding book_fault
  seal-refused f faulty = ap (λ o. fault_after o (text_fault bytes)) is ∙ faulty

  -- without one the bytes are the draft's book
  pub seals : draft_fault d ≡ None → book bytes ≡ Some (book_of d)
  unfolding book
  seals faultless = ap sealed is ∙ ap (λ o. cond (is_none o) (Some (book_of d)) None) faultless

-- ---- faults and books

sealed-faultless : (d : Option Draft) (f : Option BookFault) (b : Book) → sealed d ≡ Some b → fault_after d f ≡ None
sealed-faultless None f b is = absurd (let w : ⊥ = cc in w)
sealed-faultless (Some d) f b is = by (draft_fault d) is where
  by : (o : Option BookFault) → cond (is_none o) (Some (book_of d)) None ≡ Some b → o ≡ None
  by None is = refl
  by (Some g) is = absurd (let w : ⊥ = cc in w)

-- a book has no fault
pub book-faultless : (bytes : Text) (b : Book) → book bytes ≡ Some b → book_fault bytes ≡ None
unfolding book book_fault
book-faultless bytes b is = sealed-faultless (draft_of_bytes bytes) (text_fault bytes) b is

-- ---- how sealing ends

module _ (bytes : Text) (d : Draft) (is : draft_of_bytes bytes ≡ Some d) where
  pub sealed-book : (r : Result code.Draft LoadError) → IfOk r (λ b. the_book b ≡ book_of d) → IfOk r (λ b. draft_fault d ≡ None)
      → IfOk r (λ b. book bytes ≡ Some (the_book b))
  sealed-book (Ok b) same faultless = seals bytes d is faultless ∙ sym (ap Some same)
  sealed-book (Err e) same faultless = tt

  pub sealed-fault : (r : Result code.Draft LoadError) → IfErr r (Refuses d) → (f : BookFault) → r ≡ Err (Fault f) → book_fault bytes ≡ Some f
  sealed-fault (Ok b) refuses f told = absurd (let w : ⊥ = cc in w)
  sealed-fault (Err (Fault g)) refuses f told = seal-refused bytes d is f (subst (λ g. draft_fault d ≡ Some g) (let same : g ≡ f = cc in same) refuses)
  sealed-fault (Err Memory) refuses f told = absurd (let w : ⊥ = cc in w)
