-- How loading a book or limits ends, from how its steps do.
use Rattle.std.proofs.Common.{◌≡◌, [], Option, Some, IsSomeAnd, List, refl, sym, ap, ◌∙◌, subst}
use Rattle.ecam_io.specs.Outside.{FileHas}
use Rattle.ecam_io.proofs.Calls.{FileHas-weaker}
use Rattle.ecam_spec.specs.declared.kinds.BookFault.{BookFault}
use Rattle.ecam_spec.specs.Book.{Text, Book}
use Rattle.book_spec.specs.BookBytes.{book_fault, book}
use Rattle.book_model.specs.Sealed.{the_book}
use Rattle.book_migration.specs.Migration.{IsMigration}
use Rattle.view_spec.specs.Advisories.{Advisory}
use Rattle.limits_spec.specs.LimitsBytes.{limits_fault, limits}
use Rattle.limits_spec.specs.declared.form.LimitsFault.{LimitsFault}
use Rattle.replay_core.specs.Calls.{Files, ShelfCall}
use Rattle.replay_core.specs.Loading.{BookHas, IsFront, HasFault, IsBookFile, past_book, past_limits}
use Rattle.replay_core.specs.LimitsLoading.{LimitsHave, HasLimitsFault}
use Rattle.replay_core.specs.Migrations.{IsMigrated, HasMigrated}
use Rattle.replay_core.specs.declared.load.BookFile.{BookFile}
use Rattle.replay_core.proofs.BookFacts.{book-short, book_fault-front, book-faultless}
use Rattle.replay_core.proofs.LimitsFacts.{limits-front, limits_fault-front}
use Rattle.replay_core.proofs.Files.{front-is, front-took, front-all, front-spent}

-- ---- a book's file is read as far as a book may go, and that tells what the whole file is

module _ (s : ShelfCall) (name v : Text) (read : FileHas s.files name (λ bytes. IsFront past_book bytes v s.left)) where
  pub file-refused : (f : BookFault) → book_fault v ≡ Some f → FileHas s.files name (λ bytes. HasFault bytes f s.left)
  file-refused f is = FileHas-weaker s.files name (λ bytes. IsFront past_book bytes v s.left) (λ bytes. HasFault bytes f s.left)
      (λ bytes front. record { fault_is = sym (ap book_fault (front-is past_book bytes v s.left front) ∙ book_fault-front bytes) ∙ is; took = front-took past_book bytes v s.left front }) read

  pub file-read : (f : BookFile) → v ≡ f.bytes.items → book v ≡ Some (the_book f.book) → FileHas s.files name (IsBookFile s name f)
  file-read f held is =
      let short = book-short v (the_book f.book) is in
      FileHas-weaker s.files name (λ bytes. IsFront past_book bytes v s.left) (IsBookFile s name f)
      (λ bytes front. record {
        bytes_are = front-all past_book bytes v s.left front short ∙ held;
        book_is = ap book (front-all past_book bytes v s.left front short) ∙ is;
        spent = front-spent past_book bytes v s.left front short;
      }) read

-- ---- what is known of a file that is a book

module _ (s : ShelfCall) (name : Text) (f : BookFile) (has : FileHas s.files name (IsBookFile s name f)) where
  pub file-book : BookHas s.files name (λ b. (b ≡ the_book f.book) × (s.left ≡ Some []))
  file-book = FileHas-weaker s.files name (IsBookFile s name f) (λ bytes. IsSomeAnd (book bytes) (λ b. (b ≡ the_book f.book) × (s.left ≡ Some [])))
      (λ bytes is. subst (λ o. IsSomeAnd o (λ b. (b ≡ the_book f.book) × (s.left ≡ Some []))) (sym is.book_is) (refl, is.spent)) has

  pub file-migrated : (text : Text) → IsMigration f.bytes.items text → FileHas s.files name (IsMigrated text s.left)
  file-migrated text so = FileHas-weaker s.files name (IsBookFile s name f) (IsMigrated text s.left)
      (λ bytes is. record {
        faultless = book-faultless bytes (the_book f.book) is.book_is;
        migration = subst (λ bytes. IsMigration bytes text) (sym is.bytes_are) so;
        spent = is.spent;
      }) has

-- and then something of its text
pub file-written : (files : Files) (name text : Text) (left : Option Text) (P : Text → Type 0) → FileHas files name (IsMigrated text left) → P text
    → FileHas files name (HasMigrated P left)
file-written files name text left P has so = FileHas-weaker files name (IsMigrated text left) (HasMigrated P left)
    (λ bytes is. record { text = text; migrated = is; holds = so }) has

-- ---- a limits file is read as far as it may go, too

module _ (files : Files) (name v : Text) (left : Option Text) (read : FileHas files name (λ bytes. IsFront past_limits bytes v left)) (b : Book) where
  pub limits-refused : (f : LimitsFault) → limits_fault b v ≡ Some f → FileHas files name (HasLimitsFault b f left)
  limits-refused f is = FileHas-weaker files name (λ bytes. IsFront past_limits bytes v left) (HasLimitsFault b f left)
      (λ bytes front. record {
        fault_is = sym (ap (limits_fault b) (front-is past_limits bytes v left front) ∙ limits_fault-front b bytes) ∙ is;
        took = front-took past_limits bytes v left front;
      }) read

  pub limits-read : (ls : List Advisory) → limits b v ≡ Some ls → LimitsHave files name b (λ x. x ≡ ls)
  limits-read ls is = FileHas-weaker files name (λ bytes. IsFront past_limits bytes v left) (λ bytes. IsSomeAnd (limits b bytes) (λ x. x ≡ ls))
      (λ bytes front. subst (λ o. IsSomeAnd o (λ x. x ≡ ls)) (sym is ∙ ap (limits b) (front-is past_limits bytes v left front) ∙ limits-front b bytes) refl) read
