-- What is seen of the outside over a call: a shelf before it and after it, and a sink.
use Rattle.std.specs.Prelude.{◌≡◌, ℕ, Bool, List, Option}
use Rattle.ecam_io.specs.Outside.{raised, Rose, Appended, AppendedPrefix, IsKept}
use Rattle.ecam_io.specs.declared.outside.Source as source
use Rattle.ecam_io.specs.declared.outside.Sink as sink
use Rattle.ecam_spec.specs.Book.{Text}

-- the files of a shelf that tells them
abbrev pub Files : Type 0
Files = Option (List (Text × Text))

-- Of a shelf: its files, which no call changes; its counts of opens and of faults before the call
-- and now; whether a file is open now, and what it tells to be left of it.
pub record ShelfCall : Type 0 where
  pub files : Files
  pub opens : ℕ
  pub opens_now : ℕ
  pub faults : ℕ
  pub faults_now : ℕ
  pub is_open : Bool
  pub left : Option Text

abbrev pub shelf_call : {F : Type 0} → source.Ghosts F → F → F → ShelfCall
shelf_call g old new = record {
  files = g.files old;
  opens = g.opens old;
  opens_now = g.opens new;
  faults = g.faults old;
  faults_now = g.faults new;
  is_open = g.is_open new;
  left = g.left new;
}

-- its count of faults rose
abbrev pub HasFailed : ShelfCall → Type 0
HasFailed s = Rose s.faults s.faults_now

-- `open` was called once, twice, or three times
abbrev pub OpenedOne : ShelfCall → Type 0
OpenedOne s = s.opens_now ≡ raised s.opens

abbrev pub OpenedBoth : ShelfCall → Type 0
OpenedBoth s = s.opens_now ≡ raised (raised s.opens)

abbrev pub OpenedThree : ShelfCall → Type 0
OpenedThree s = s.opens_now ≡ raised (raised (raised s.opens))

-- Of a sink: what its states agree with, the states before the call and now, and its counts of
-- faults.
pub record SinkCall (S : Type 0) : Type 1 where
  pub agrees : S → Text → Type 0
  pub old : S
  pub new : S
  pub faults : ℕ
  pub faults_now : ℕ

abbrev pub sink_call : {S : Type 0} → sink.Ghosts S → S → S → SinkCall S
sink_call g old new = record {
  agrees = g.agrees;
  old = old;
  new = new;
  faults = g.faults old;
  faults_now = g.faults new;
}

module _ {S : Type 0} (s : SinkCall S) where
  -- its count of faults rose
  abbrev pub HasFailedToWrite : Type 0
  HasFailedToWrite = Rose s.faults s.faults_now

  -- these bytes are written, a prefix of them, or none
  abbrev pub Writes : Text → Type 0
  Writes bytes = Appended s.agrees s.old s.new bytes

  abbrev pub WritesPart : Text → Type 0
  WritesPart bytes = AppendedPrefix s.agrees s.old s.new bytes

  abbrev pub WritesNothing : Type 0
  WritesNothing = IsKept s.agrees s.old s.new
