-- How loading a book ends, each ending with its cause.
use Rattle.std.specs.Prelude.{◌≡◌, ◌⊎◌, ℕ, ◌≤◌, ◌<◌, ◌+◌, ◌++◌, length, true, false, [], Option, Some}
use Rattle.std.specs.Prelude.{Result, Ok, Err, IsSomeAnd}
use Rattle.ecam_io.specs.Outside.{FileHas, MayRefuse, IsClosed}
use Rattle.ecam_spec.specs.declared.kinds.BookFault.{BookFault}
use Rattle.ecam_spec.specs.declared.limits.TheConstants.{BOOK_BYTES}
use Rattle.ecam_spec.specs.Book.{Text, Book}
use Rattle.book_spec.specs.BookBytes.{book_fault, book}
use Rattle.limits_spec.specs.declared.form.TheConstants.{LIMITS_BYTES}
use Rattle.book_model.specs.Sealed.{the_book}
use Rattle.book_model.specs.declared.draft.Draft.{Draft}
use Rattle.fwc_pair.specs.PairState.{PairFits}
use Rattle.replay_core.specs.Calls.{Files, ShelfCall, HasFailed}
use Rattle.replay_core.specs.declared.load.Unready.{Unready}
use Rattle.replay_core.specs.declared.load.Unready.TheVariants.{Refused, Unread, NoMemory}
use Rattle.replay_core.specs.declared.load.BookFile.{BookFile}
use Rattle.replay_core.specs.declared.load.Loaded.{Loaded}

-- where a shelf tells its files, one has that name, and its bytes are a book of which P holds
abbrev pub BookHas : Files → Text → (Book → Type 0) → Type 0
BookHas files name P = FileHas files name (λ bytes. IsSomeAnd (book bytes) P)

-- a book of this many bytes is too large, whatever follows, and so are limits of that many
abbrev pub past_book : ℕ
past_book = BOOK_BYTES + 1

abbrev pub past_limits : ℕ
past_limits = LIMITS_BYTES + 1

-- the first bytes of a file, up to so many, and what is left behind them; fewer come only where
-- nothing is
pub record IsFront (most : ℕ) (bytes front : Text) (left : Option Text) : Type 0 where
  pub behind : Text
  pub parts : bytes ≡ front ++ behind
  pub rest : left ≡ Some behind
  pub few : length front ≤ most
  pub whole : length front < most → behind ≡ []

-- of a file with these bytes at most so many were taken, those before what is left
pub record TookAtMost (most : ℕ) (bytes : Text) (left : Option Text) : Type 0 where
  pub taken : Text
  pub behind : Text
  pub parts : bytes ≡ taken ++ behind
  pub rest : left ≡ Some behind
  pub few : length taken ≤ most

-- where a shelf tells its files, one has that name, and at most so many bytes were taken of it
abbrev pub Taken : ℕ → Files → Text → Option Text → Type 0
Taken most files name left = FileHas files name (λ bytes. TookAtMost most bytes left)

-- the bytes of a book's file have this fault, and it was read no further than one byte more than
-- a book may have
pub record HasFault (bytes : Text) (f : BookFault) (left : Option Text) : Type 0 where
  pub fault_is : book_fault bytes ≡ Some f
  pub took : TookAtMost past_book bytes left

-- the file couldn't be opened, and none is open
pub record IsUnopened (s : ShelfCall) (name : Text) : Type 0 where
  pub cause : MayRefuse s.files name s.faults s.faults_now
  pub shut : s.is_open ≡ false
  pub closed : IsClosed s.files s.left

-- a file is open, and reading it failed, no further than so many bytes
pub record IsBrokenOff (most : ℕ) (s : ShelfCall) (name : Text) : Type 0 where
  pub cause : HasFailed s
  pub opened : s.is_open ≡ true
  pub took : Taken most s.files name s.left

-- a file wasn't read, no further than so many bytes
abbrev pub IsUnread : ℕ → ShelfCall → Text → Type 0
IsUnread most s name = IsUnopened s name ⊎ IsBrokenOff most s name

module _ (s : ShelfCall) (name : Text) where
  -- why no book stands ready
  abbrev pub Unloaded : Unready → Type 0
  Unloaded (Refused f) = FileHas s.files name (λ bytes. HasFault bytes f s.left)
  Unloaded Unread = IsUnread past_book s name
  Unloaded NoMemory = Taken past_book s.files name s.left

  -- the bytes of the file, which was read to its end, are this book
  pub record IsBookFile (f : BookFile) (bytes : Text) : Type 0 where
    pub bytes_are : bytes ≡ f.bytes.items
    pub book_is : book bytes ≡ Some (the_book f.book)
    pub spent : s.left ≡ Some []

  -- how reading a book's file ends
  abbrev pub Reads : Result BookFile Unready → Type 0
  Reads (Ok f) = FileHas s.files name (IsBookFile f)
  Reads (Err e) = Unloaded e

  -- how loading a book ends
  abbrev pub Loads : Result Draft Unready → Type 0
  Loads (Ok d) = BookHas s.files name (λ b. (b ≡ the_book d) × (s.left ≡ Some []))
  Loads (Err e) = Unloaded e

  -- the book of the file stands ready to be replayed
  pub record HasLoaded (l : Loaded) : Type 0 where
    pub book : BookHas s.files name (λ b. (b ≡ the_book l.book) × (s.left ≡ Some []))
    pub fits : PairFits (the_book l.book) l.pair

  -- how loading a book to replay by it ends
  abbrev pub Readies : Result Loaded Unready → Type 0
  Readies (Ok l) = HasLoaded l
  Readies (Err e) = Unloaded e
