-- How the commands end: each ending with its cause, and what is written.
use Rattle.std.specs.Prelude.{◌≡◌, ◌⊎◌, true, List, [], Option, Some, None}
use Rattle.ecam_io.specs.Outside.{FileHas}
use Rattle.ecam_spec.specs.declared.kinds.BookFault.{BookFault}
use Rattle.ecam_spec.specs.Book.{Text, Book}
use Rattle.ecam_spec.specs.Summary.{summary}
use Rattle.ecam_spec.specs.Command.{Command, check, replay, why, drill, migrate, callouts, advise, report, words, no_limit}
use Rattle.record_views.specs.Showing.{blocks_of}
use Rattle.replay_core.specs.Calls.{ShelfCall, OpenedOne, OpenedBoth, OpenedThree, HasFailed}
use Rattle.replay_core.specs.Calls.{SinkCall, Writes, WritesPart, WritesNothing, HasFailedToWrite}
use Rattle.replay_core.specs.Drill.{drill_line}
use Rattle.replay_core.specs.Loading.{BookHas, Taken, HasFault, IsUnopened, IsUnread, past_book}
use Rattle.replay_core.specs.LimitsLoading.{Unset}
use Rattle.replay_core.specs.Migrations.{HasMigrated}
use Rattle.view_spec.specs.Advisories.{Advisory}
use Rattle.view_spec.specs.Places.{number_place}
use Rattle.replay_core.specs.Showings.{called_out, advised, report_of, words_of}
use Rattle.replay_core.specs.ReadEndings.{Endings, showing, numbered, under, explaining}
use Rattle.replay_core.specs.declared.load_limits.UnreadyLimits.{UnreadyLimits}
use Rattle.replay_core.specs.declared.load_limits.UnreadyLimits.TheVariants as unready
use Rattle.replay_core.specs.declared.outcome.Outcome.{Outcome}
use Rattle.replay_core.specs.declared.outcome.Outcome.TheVariants as outcomes

-- ---- a command that reads a book

module _ {S : Type 0} (f : ShelfCall) (out : SinkCall S) (book : Text) where
  -- the book's file wasn't read, and nothing is written
  pub record BookUnread : Type 0 where
    pub count : OpenedOne f
    pub unread : IsUnread past_book f book
    pub kept : WritesNothing out

  -- the book has this fault, and nothing is written
  pub record BookFaulty (g : BookFault) : Type 0 where
    pub count : OpenedOne f
    pub faulty : FileHas f.files book (λ bytes. HasFault bytes g f.left)
    pub kept : WritesNothing out

  -- there was too little memory, and nothing is written
  pub record TooLittle : Type 0 where
    pub count : OpenedOne f
    pub took : Taken past_book f.files book f.left
    pub kept : WritesNothing out

  -- how a command ends that reads a book alone: all is done, writing failed, or no book stands ready
  abbrev pub ByBookAlone : Type 0 → Type 0 → Outcome → Type 0
  ByBookAlone done unwritten outcomes.Done = done
  ByBookAlone done unwritten outcomes.Usage = ⊥
  ByBookAlone done unwritten (outcomes.BookRefused g) = BookFaulty g
  ByBookAlone done unwritten (outcomes.RecordRefused g) = ⊥
  ByBookAlone done unwritten outcomes.ReadFault = BookUnread
  ByBookAlone done unwritten outcomes.WriteFault = unwritten
  ByBookAlone done unwritten outcomes.NoMemory = TooLittle
  ByBookAlone done unwritten outcomes.NoSuch = ⊥
  ByBookAlone done unwritten (outcomes.LimitsRefused g) = ⊥

  -- the book has no fault, was read to its end, and this is written of it
  pub record BookTold (writes : Book → Text) : Type 0 where
    pub count : OpenedOne f
    pub told : BookHas f.files book (λ b. Writes out (writes b) × (f.left ≡ Some []))

  -- or a prefix of it is, and writing failed
  pub record BookUntold (writes : Book → Text) : Type 0 where
    pub count : OpenedOne f
    pub cause : HasFailedToWrite out
    pub told : BookHas f.files book (λ b. WritesPart out (writes b) × (f.left ≡ Some []))

  -- how one ends that writes this of a book
  abbrev pub ByBook : (Book → Text) → Outcome → Type 0
  ByBook writes = ByBookAlone (BookTold writes) (BookUntold writes)

  -- the book has no fault, was read to its end, and is written in version 2
  pub record Migrated : Type 0 where
    pub count : OpenedOne f
    pub told : FileHas f.files book (HasMigrated (Writes out) f.left)

  -- or a prefix of it is, and writing failed
  pub record HalfMigrated : Type 0 where
    pub count : OpenedOne f
    pub cause : HasFailedToWrite out
    pub told : FileHas f.files book (HasMigrated (WritesPart out) f.left)

  -- how the one ends that writes a book in version 2
  abbrev pub ByMigration : Outcome → Type 0
  ByMigration = ByBookAlone Migrated HalfMigrated

-- ---- a command that reads a record by a book, once it has opened so many files

module _ {S : Type 0} (f : ShelfCall) (out : SinkCall S) (Opened : Type 0) (book record' : Text) where
  -- the book has no fault, the record's file is there, and this holds of both
  abbrev pub Both : (Book → Text → Option Text → Type 0) → Type 0
  Both P = BookHas f.files book (λ b. FileHas f.files record' (λ text. P b text f.left))

  -- all files were opened, and this holds of both
  pub record Reached (P : Book → Text → Option Text → Type 0) : Type 0 where
    pub count : Opened
    pub both : Both P

  -- the book has no fault, the record's file couldn't be opened, and nothing is written
  pub record RecordUnopened (accepts : Book → Type 0) : Type 0 where
    pub count : Opened
    pub accepted : BookHas f.files book accepts
    pub unopened : IsUnopened f record'
    pub kept : WritesNothing out

  -- the record's file is open, and reading it failed
  pub record RecordUnread (P : Book → Text → Option Text → Type 0) : Type 0 where
    pub count : Opened
    pub cause : HasFailed f
    pub opened : f.is_open ≡ true
    pub both : Both P

  -- writing failed
  pub record NotWritten (P : Book → Text → Option Text → Type 0) : Type 0 where
    pub count : Opened
    pub cause : HasFailedToWrite out
    pub both : Both P

  -- how a command ends that has these endings of its own
  abbrev pub ByReading : Endings → Outcome → Type 0
  ByReading e outcomes.Done = Reached e.whole
  ByReading e outcomes.Usage = ⊥
  ByReading e (outcomes.BookRefused g) = BookFaulty f out book g
  ByReading e (outcomes.RecordRefused g) = Reached (e.refused g)
  ByReading e outcomes.ReadFault =
      BookUnread f out book ⊎ (RecordUnopened e.accepts ⊎ RecordUnread e.broken)
  ByReading e outcomes.WriteFault = NotWritten e.stopped
  ByReading e outcomes.NoMemory = TooLittle f out book
  ByReading e outcomes.NoSuch = ⊥
  ByReading e (outcomes.LimitsRefused g) = ⊥

-- that opens the book and the record
abbrev pub ByRecord : {S : Type 0} → ShelfCall → SinkCall S → Text → Text → Endings → Outcome
    → Type 0
ByRecord f out book record' = ByReading f out (OpenedBoth f) book record'

-- ---- one that goes by a number parameter besides

module _ {S : Type 0} (f : ShelfCall) (out : SinkCall S) (book record' name : Text) where
  -- the book has no fault and no such number, the record wasn't opened, and nothing is written
  pub record LacksNumber : Type 0 where
    pub count : OpenedOne f
    pub lacks : BookHas f.files book (λ b. number_place b name ≡ None)
    pub kept : WritesNothing out

  abbrev pub ByNumber : Endings → Outcome → Type 0
  ByNumber e outcomes.NoSuch = LacksNumber
  ByNumber e outcome = ByRecord f out book record' (numbered name e) outcome

-- ---- one that goes by the limits of a file besides

module _ {S : Type 0} (f : ShelfCall) (out : SinkCall S) (book record' name : Text) where
  -- no limits stand ready for this cause, or no memory behind them, the record wasn't opened, and nothing is written
  pub record WithoutLimits (e : UnreadyLimits) : Type 0 where
    pub count : OpenedBoth f
    pub cause : Unset f book name e
    pub kept : WritesNothing out

  -- or how it ends besides
  abbrev pub WithLimits : (List Advisory → Endings) → Outcome → Type 0
  WithLimits e = ByReading f out (OpenedThree f) book record' (under f.files name e)

  abbrev pub ByLimits : (List Advisory → Endings) → Outcome → Type 0
  ByLimits e (outcomes.LimitsRefused g) = WithoutLimits (unready.Refused g)
  ByLimits e outcomes.ReadFault = WithoutLimits unready.Unread ⊎ WithLimits e outcomes.ReadFault
  ByLimits e outcomes.NoMemory = WithoutLimits unready.NoMemory ⊎ WithLimits e outcomes.NoMemory
  ByLimits e outcome = WithLimits e outcome

-- ---- the program

module _ {S : Type 0} (f : ShelfCall) (out : SinkCall S) where
  -- the words have none of the forms, nothing is opened, and nothing is written
  pub record Refuses (outcome : Outcome) : Type 0 where
    pub usage : outcome ≡ outcomes.Usage
    pub opens : f.opens_now ≡ f.opens
    pub faults : f.faults_now ≡ f.faults
    pub kept : out.new ≡ out.old

  -- how the program ends that was asked for this
  abbrev pub Ends : Option Command → Outcome → Type 0
  Ends None = Refuses
  Ends (Some (check book)) = ByBook f out book summary
  Ends (Some (replay book record' limit)) =
      ByRecord f out book record' (showing out blocks_of limit)
  Ends (Some (why book record')) = ByRecord f out book record' (explaining out)
  Ends (Some (drill book seed moments)) = ByBook f out book (drill_line seed moments)
  Ends (Some (migrate book)) = ByMigration f out book
  Ends (Some (callouts book record' name)) =
      ByNumber f out book record' name (showing out (called_out name) no_limit)
  Ends (Some (advise book record' name)) =
      ByLimits f out book record' name (λ ls. showing out (advised ls) no_limit)
  Ends (Some (report book record')) = ByRecord f out book record' (showing out report_of no_limit)
  Ends (Some (words book record')) = ByRecord f out book record' (showing out words_of no_limit)
