-- How the commands end, from how their steps do.
use Rattle.std.proofs.Common.{◌≡◌, Result, Ok, Err, ℕ, ◌≤◌, List, [], Option, Some, None, IsSomeAnd, sym, ap, ◌∙◌, subst, inl, inr}
use Rattle.std.specs.Prelude.{is_some, IsErrAnd}
use Rattle.ecam_io.specs.Outside.{raised, Rose, file_named, FileHas, MayRefuse, IsClosed}
use Rattle.ecam_io.proofs.Calls.{Rose-earlier, FileHas-weaker}
use Rattle.ecam_spec.specs.Book.{Text, Book}
use Rattle.ecam_spec.specs.Command.{no_limit}
use Rattle.ecam_spec.specs.Record.{events}
use Rattle.ecam_spec.specs.declared.kinds.Event.{Event}
use Rattle.book_spec.specs.BookBytes.{book}
use Rattle.book_model.specs.Sealed.{the_book}
use Rattle.fwc_pair.specs.declared.pair.Pair.{Pair}
use Rattle.fwc_pair.specs.PairState.{PairStands}
use Rattle.ecam_spec.specs.Replay.{standing_lines}
use Rattle.record_views.specs.Showing.{Showing}
use Rattle.replay_core.specs.Calls.{Files, ShelfCall, OpenedOne, OpenedBoth, SinkCall, Writes, WritesPart, WritesNothing, HasFailedToWrite}
use Rattle.record_views.specs.Runs.{HasStopped}
use Rattle.replay_core.specs.Loading.{BookHas, IsUnopened, Unloaded, HasLoaded, Loads, Readies}
use Rattle.view_spec.specs.Places.{number_place}
use Rattle.replay_core.specs.Play.{ShowsInPart, Plays, uncounted, Shown}
use Rattle.replay_core.specs.Answers.{ByBookAlone, ByBook, ByReading, ByRecord, ByNumber, LacksNumber, BookTold, BookUntold}
use Rattle.replay_core.specs.ReadEndings.{Endings, ShowsWhole, ShowsUpTo, showing, HasNumber, ExplainsInPart, Explains, ExplainsNothing, BreaksOff, explaining}
use Rattle.replay_core.specs.Outcomes.{outcome_of, refusal_of}
use Rattle.replay_core.specs.declared.load.Loaded.{Loaded}
use Rattle.replay_core.specs.declared.load.Unready.{Unready}
use Rattle.replay_core.specs.declared.load.Unready.TheVariants.{Refused, Unread, NoMemory}
use Rattle.replay_core.specs.declared.outcome.Outcome.{Outcome}
use Rattle.replay_core.specs.declared.outcome.Outcome.TheVariants as outcomes
use Rattle.record_views.specs.declared.show.RunError.{RunError}
use Rattle.record_views.specs.declared.show.RunError.TheVariants.{Read, Write, Record}

-- what follows from the book that a file is
pub BookHas-weaker : (files : Files) (name : Text) (P Q : Book → Type 0) → ((b : Book) → P b → Q b) → BookHas files name P → BookHas files name Q
BookHas-weaker files name P Q then = FileHas-weaker files name (λ bytes. IsSomeAnd (book bytes) P) (λ bytes. IsSomeAnd (book bytes) Q) (λ bytes. each (book bytes)) where
  each : (o : Option Book) → IsSomeAnd o P → IsSomeAnd o Q
  each None h = h
  each (Some b) h = then b h

-- an open that failed since a moment failed since any earlier one
since : (files : Files) (name : Text) (before mid now : ℕ) → before ≤ mid → MayRefuse files name mid now → MayRefuse files name before now
since files name before mid now less (inl rose) = inl (Rose-earlier before mid now less rose)
since files name before mid now less (inr lacks) = inr lacks

-- ---- no book stands ready

module _ {S : Type 0} (f : ShelfCall) (out : SinkCall S) (name : Text) (once : OpenedOne f) (kept : WritesNothing out) where
  pub unloaded-alone : (done unwritten : Type 0) (e : Unready) → Unloaded f name e → ByBookAlone f out name done unwritten (outcome_of e)
  unloaded-alone done unwritten (Refused g) faulty = record { count = once; faulty = faulty; kept = kept }
  unloaded-alone done unwritten Unread unread = record { count = once; unread = unread; kept = kept }
  unloaded-alone done unwritten NoMemory took = record { count = once; took = took; kept = kept }

  pub unready-book : (writes : Book → Text) (e : Unready) → Readies f name (Err e) → ByBook f out name writes (outcome_of e)
  unready-book writes e = unloaded-alone (BookTold f out name writes) (BookUntold f out name writes) e

  pub unloaded-book : (writes : Book → Text) (e : Unready) → Loads f name (Err e) → ByBook f out name writes (outcome_of e)
  unloaded-book writes e = unloaded-alone (BookTold f out name writes) (BookUntold f out name writes) e

  pub unready-record : (record' : Text) (ends : Endings) (e : Unready) → Readies f name (Err e) → ByRecord f out name record' ends (outcome_of e)
  unready-record record' ends (Refused g) faulty = record { count = once; faulty = faulty; kept = kept }
  unready-record record' ends Unread unread = inl (record { count = once; unread = unread; kept = kept })
  unready-record record' ends NoMemory took = record { count = once; took = took; kept = kept }

-- ---- a book is told of

module _ {S : Type 0} (f : ShelfCall) (out : SinkCall S) (name : Text) (once : OpenedOne f) (b : Book) (has : BookHas f.files name (λ x. (x ≡ b) × (f.left ≡ Some []))) (writes : Book → Text) where
  pub book-told : Writes out (writes b) → BookTold f out name writes
  book-told written = record {
    count = once;
    told = BookHas-weaker f.files name (λ x. (x ≡ b) × (f.left ≡ Some [])) (λ x. Writes out (writes x) × (f.left ≡ Some []))
        (λ x is. (subst (λ x. Writes out (writes x)) (sym is.0) written, is.1)) has;
  }

  pub book-untold : HasFailedToWrite out → WritesPart out (writes b) → BookUntold f out name writes
  book-untold cause part = record {
    count = once;
    cause = cause;
    told = BookHas-weaker f.files name (λ x. (x ≡ b) × (f.left ≡ Some [])) (λ x. WritesPart out (writes x) × (f.left ≡ Some []))
        (λ x is. (subst (λ x. WritesPart out (writes x)) (sym is.0) part, is.1)) has;
  }

-- ---- a record was shown

-- how the program ends then
abbrev pub run-ending : Result (Unit {0}) RunError → Outcome
run-ending (Ok done) = outcomes.Done
run-ending (Err e) = refusal_of e

-- ---- two calls of a shelf, the first of which loaded a book

-- as one
abbrev pub joined : ShelfCall → ShelfCall → ShelfCall
joined a c = record {
  files = a.files;
  opens = a.opens;
  opens_now = c.opens_now;
  faults = a.faults;
  faults_now = c.faults_now;
  is_open = c.is_open;
  left = c.left;
}

-- this book was loaded in the first, and the second follows it
pub record Follows (a c : ShelfCall) (name : Text) (b : Book) : Type 0 where
  pub same : c.files ≡ a.files
  pub faults : c.faults ≡ a.faults_now
  pub less : a.faults ≤ a.faults_now
  pub has : BookHas a.files name (λ x. x ≡ b)

pub after-loading : (a c : ShelfCall) (name : Text) (b : Book) → c.files ≡ a.files → c.faults ≡ a.faults_now → a.faults ≤ a.faults_now
    → BookHas a.files name (λ x. (x ≡ b) × (a.left ≡ Some [])) → Follows a c name b
after-loading a c name b same faults less has = record {
  same = same;
  faults = faults;
  less = less;
  has = BookHas-weaker a.files name (λ x. (x ≡ b) × (a.left ≡ Some [])) (λ x. x ≡ b) (λ x is. is.0) has;
}

module _ (a c : ShelfCall) (name record' : Text) (b : Book) (on : Follows a c name b) where
  -- what is known of the loaded book holds of the book that its file is
  pub loaded : (P : Book → Type 0) → P b → BookHas a.files name P
  loaded P so = BookHas-weaker a.files name (λ x. x ≡ b) P (λ x is. subst P (sym is) so) on.has

  -- and what is known of another file
  of-both : (Q : Text → Type 0) (P : Book → Text → Option Text → Type 0) → ((text : Text) → Q text → P b text c.left)
      → FileHas c.files record' Q → BookHas a.files name (λ b. FileHas a.files record' (λ text. P b text c.left))
  of-both Q P then has =
      loaded (λ b. FileHas a.files record' (λ text. P b text c.left))
      (subst (λ files. FileHas files record' (λ text. P b text c.left)) on.same
      (FileHas-weaker c.files record' Q (λ text. P b text c.left) then has))

  pub unopened : IsUnopened c record' → IsUnopened (joined a c) record'
  unopened un = record {
    cause = since a.files record' a.faults a.faults_now c.faults_now on.less
        (subst (λ n. MayRefuse a.files record' n c.faults_now) on.faults (subst (λ files. MayRefuse files record' c.faults c.faults_now) on.same un.cause));
    shut = un.shut;
    closed = subst (λ files. IsClosed files c.left) on.same un.closed;
  }

  pub rose : Rose c.faults c.faults_now → Rose a.faults c.faults_now
  rose r = Rose-earlier a.faults a.faults_now c.faults_now on.less (subst (λ n. Rose n c.faults_now) on.faults r)

module _ (a c : ShelfCall) (name record' : Text) (b : Book) (on : Follows a c name b) {S : Type 0} (out : SinkCall S) (Opened : Type 0) (count : Opened) where
  -- the record was shown
  module _ (o : Book → Showing) (limit : ℕ) (pair : Pair) where
    ended-so : (played : Result ℕ RunError) → Plays c out b (o b) pair record' limit played
        → ByReading (joined a c) out Opened name record' (showing out o limit) (run-ending (uncounted played))
    ended-so (Ok n) plays = record {
      count = count;
      both = of-both a c name record' b on _ (ShowsWhole out o limit) (λ text h. record { faultless = h.faultless; written = h.written; spent = h.spent }) plays;
    }
    ended-so (Err Read) (inl (un, kept)) = inr (inl (record { count = count; accepted = loaded a c name record' b on (λ b. Unit {0}) tt; unopened = unopened a c name record' b on un; kept = kept }))
    ended-so (Err Read) (inr broken) = inr (inr (record {
      count = count;
      cause = rose a c name record' b on broken.cause;
      opened = broken.opened;
      both = of-both a c name record' b on _ (λ b text left. ShowsInPart out limit (o b) text left) (λ text h. h) broken.replies;
    }))
    ended-so (Err Write) plays = record {
      count = count;
      cause = plays.0;
      both = of-both a c name record' b on _ (λ b text left. HasStopped b (o b) out.agrees out.old out.new limit text left) (λ text h. h) plays.1;
    }
    ended-so (Err (Record g)) plays = record {
      count = count;
      both = of-both a c name record' b on _ (ShowsUpTo out o limit g) (λ text h. record { fault_is = h.fault_is; written = h.written; took = h.took }) plays;
    }

  pub shown-so : (o : Book → Showing) (limit : ℕ) (result : Result (Unit {0}) RunError) → Shown c out b (o b) record' limit result
      → ByReading (joined a c) out Opened name record' (showing out o limit) (run-ending result)
  shown-so o limit result shown =
      subst (λ r. ByReading (joined a c) out Opened name record' (showing out o limit) (run-ending r)) (sym shown.result_is)
      (ended-so o limit shown.pair shown.played shown.plays)

  -- the replay went into a sink that never fails, and nothing was written elsewhere
  module _ {D : Type 0} (dropped : SinkCall D) (silent : Showing) (never : HasFailedToWrite dropped → ⊥) (pair : Pair) where
    pub unexplained : (e : RunError) → Plays c dropped b silent pair record' no_limit (Err e) → WritesNothing out → ByReading (joined a c) out Opened name record' (explaining out) (refusal_of e)
    unexplained Read (inl (un, none)) kept = inr (inl (record { count = count; accepted = loaded a c name record' b on (λ b. Unit {0}) tt; unopened = unopened a c name record' b on un; kept = kept }))
    unexplained Read (inr broken) kept = inr (inr (record {
      count = count;
      cause = rose a c name record' b on broken.cause;
      opened = broken.opened;
      both = of-both a c name record' b on _ (BreaksOff out) (λ text h. record { taken = h.taken; behind = h.behind; part = h.part; rest = h.rest; kept = kept }) broken.replies;
    }))
    unexplained Write plays kept = absurd (never plays.0)
    unexplained (Record g) plays kept = record {
      count = count;
      both = of-both a c name record' b on _ (ExplainsNothing out g) (λ text h. record { fault_is = h.fault_is; kept = kept; took = h.took }) plays;
    }

    -- and then the standings were written
    pub explained : (n : ℕ) → Plays c dropped b silent pair record' no_limit (Ok n)
        → ((h : List Event) → PairStands b h pair → Writes out (standing_lines b h))
        → ByReading (joined a c) out Opened name record' (explaining out) outcomes.Done
    explained n plays whole = record {
      count = count;
      both = of-both a c name record' b on _ (Explains out) (λ text h. record { faultless = h.faultless; written = whole (events text no_limit) h.stands; spent = h.spent }) plays;
    }

    -- and then a prefix of the standings was written
    pub half-explained : (n : ℕ) → Plays c dropped b silent pair record' no_limit (Ok n) → HasFailedToWrite out
        → ((h : List Event) → PairStands b h pair → WritesPart out (standing_lines b h))
        → ByReading (joined a c) out Opened name record' (explaining out) outcomes.WriteFault
    half-explained n plays cause part = record {
      count = count;
      cause = cause;
      both = of-both a c name record' b on _ (ExplainsInPart out) (λ text h. record { faultless = h.faultless; written = part (events text no_limit) h.stands; spent = h.spent }) plays;
    }

-- the book was loaded in the first, and the record shown in the second
pub shown-after-loading : (a c : ShelfCall) (name record' : Text) (l : Loaded) → c.files ≡ a.files → c.faults ≡ a.faults_now → c.opens ≡ a.opens_now
    → a.faults ≤ a.faults_now → OpenedOne a → HasLoaded a name l → {S : Type 0} (out : SinkCall S) (o : Book → Showing) (limit : ℕ) (result : Result (Unit {0}) RunError)
    → OpenedOne c → Shown c out (the_book l.book) (o (the_book l.book)) record' limit result → ByRecord (joined a c) out name record' (showing out o limit) (run-ending result)
shown-after-loading a c name record' l same faults opens less once has out o limit result again shown =
    let b = the_book l.book in
    let on = after-loading a c name b same faults less has.book in
    shown-so a c name record' b on out (OpenedBoth (joined a c)) (again ∙ ap raised opens ∙ ap raised once) o limit result shown

-- ---- a command that goes by a number parameter besides

file-and : (files : Files) (name : Text) (P Q : Text → Type 0) → FileHas files name P → FileHas files name Q → FileHas files name (λ bytes. P bytes × Q bytes)
file-and None name P Q p q = p
file-and (Some told) name P Q p q = each (file_named told name) p q where
  each : (o : Option Text) → IsSomeAnd o P → IsSomeAnd o Q → IsSomeAnd o (λ bytes. P bytes × Q bytes)
  each None p q = p
  each (Some bytes) p q = (p, q)

pub book-and : (files : Files) (name : Text) (P Q : Book → Type 0) → BookHas files name P → BookHas files name Q → BookHas files name (λ b. P b × Q b)
book-and files name P Q p q =
    FileHas-weaker files name (λ bytes. IsSomeAnd (book bytes) P × IsSomeAnd (book bytes) Q) (λ bytes. IsSomeAnd (book bytes) (λ b. P b × Q b))
    (λ bytes both. each (book bytes) both.0 both.1)
    (file-and files name (λ bytes. IsSomeAnd (book bytes) P) (λ bytes. IsSomeAnd (book bytes) Q) p q) where
      each : (o : Option Book) → IsSomeAnd o P → IsSomeAnd o Q → IsSomeAnd o (λ b. P b × Q b)
      each None p q = p
      each (Some b) p q = (p, q)

module _ {S : Type 0} (f : ShelfCall) (out : SinkCall S) (name record' number : Text) (e : Endings) (there : BookHas f.files name (HasNumber number)) where
  with-number : (P : Book → Text → Option Text → Type 0) → BookHas f.files name (λ b. FileHas f.files record' (λ text. P b text f.left))
      → BookHas f.files name (λ b. FileHas f.files record' (λ text. HasNumber number b × P b text f.left))
  with-number P has =
      BookHas-weaker f.files name (λ b. HasNumber number b × FileHas f.files record' (λ text. P b text f.left)) _
      (λ b both. FileHas-weaker f.files record' (λ text. P b text f.left) (λ text. HasNumber number b × P b text f.left) (λ text so. (both.0, so)) both.1)
      (book-and f.files name (HasNumber number) (λ b. FileHas f.files record' (λ text. P b text f.left)) there has)

  -- what it ends with, where the book has the number
  pub by-its-number : (o : Outcome) → ByRecord f out name record' e o → ByNumber f out name record' number e o
  by-its-number outcomes.Done has = record { count = has.count; both = with-number e.whole has.both }
  by-its-number outcomes.Usage never = never
  by-its-number (outcomes.BookRefused g) has = has
  by-its-number (outcomes.RecordRefused g) has = record { count = has.count; both = with-number (e.refused g) has.both }
  by-its-number outcomes.ReadFault (inl has) = inl has
  by-its-number outcomes.ReadFault (inr (inl has)) = inr (inl (record { count = has.count; accepted = there; unopened = has.unopened; kept = has.kept }))
  by-its-number outcomes.ReadFault (inr (inr has)) = inr (inr (record { count = has.count; cause = has.cause; opened = has.opened; both = with-number e.broken has.both }))
  by-its-number outcomes.WriteFault has = record { count = has.count; cause = has.cause; both = with-number e.stopped has.both }
  by-its-number outcomes.NoMemory has = has
  by-its-number outcomes.NoSuch never = absurd never
  by-its-number (outcomes.LimitsRefused g) never = never

-- the loaded book has the number, or lacks it
module _ (f : ShelfCall) (name number : Text) (l : Loaded) (has : HasLoaded f name l) where
  of-loaded : (P : Book → Type 0) → P (the_book l.book) → BookHas f.files name P
  of-loaded P so = BookHas-weaker f.files name (λ b. (b ≡ the_book l.book) × (f.left ≡ Some [])) P (λ b is. subst P (sym is.0) so) has.book

  pub has-number : (param : ℕ) → number_place (the_book l.book) number ≡ Some param → BookHas f.files name (HasNumber number)
  has-number param is = of-loaded (HasNumber number) (ap is_some is)

pub lacks-number : {S : Type 0} (f : ShelfCall) (out : SinkCall S) (name record' number : Text) (l : Loaded) → OpenedOne f → HasLoaded f name l → WritesNothing out
    → number_place (the_book l.book) number ≡ None → LacksNumber f out name record' number
lacks-number f out name record' number l once has kept none = record {
  count = once;
  lacks = of-loaded f name number l has (λ b. number_place b number ≡ None) none;
  kept = kept;
}

-- no book stands ready
pub unready-number : {S : Type 0} (f : ShelfCall) (out : SinkCall S) (name record' number : Text) (e : Endings) → OpenedOne f → WritesNothing out
    → (u : Unready) → Readies f name (Err u) → ByNumber f out name record' number e (outcome_of u)
unready-number f out name record' number e once kept (Refused g) faulty = record { count = once; faulty = faulty; kept = kept }
unready-number f out name record' number e once kept Unread unread = inl (record { count = once; unread = unread; kept = kept })
unready-number f out name record' number e once kept NoMemory took = record { count = once; took = took; kept = kept }

-- ---- what the exit of a `?` tells

pub told-error : {E : Type 0} (ending : Result (Unit {0}) E → Outcome) (r : Result (Unit {0}) E) (e : E) → IsErrAnd r (λ x. x ≡ e) → ending r ≡ ending (Err e)
told-error ending (Ok done) e is = absurd is
told-error ending (Err x) e is = ap (λ x. ending (Err x)) is

-- ---- what isn't told as a fault counts none

same-error : {T : Type 0} (e f : RunError) → ◌≡◌ {A = Result T RunError} (Err e) (Err f) → e ≡ f
same-error e f is = cc

pub not-refused : {T : Type 0} (e f : RunError) (o p : Outcome) → o ≡ refusal_of e → refusal_of f ≡ p → (o ≡ p → ⊥) → ◌≡◌ {A = Result T RunError} (Err e) (Err f) → ⊥
not-refused e f o p is told other same = other (is ∙ ap refusal_of (same-error e f same) ∙ told)

pub not-unready : (l : Loaded) (e : Unready) → ◌≡◌ {A = Result Loaded Unready} (Ok l) (Err e) → ⊥
not-unready l e is = let w : ⊥ = cc in w
