-- How a command ends that goes by the limits of a file, from how its steps do.
use Rattle.std.proofs.Common.{◌≡◌, ℕ, ◌≤◌, List, [], Option, Some, None, IsSomeAnd, Result, Ok, Err, sym, ◌∙◌, ap, subst, inl, inr}
use Rattle.ecam_io.specs.Outside.{raised, FileHas}
use Rattle.ecam_io.proofs.Calls.{FileHas-weaker}
use Rattle.ecam_spec.specs.Book.{Text, Book}
use Rattle.book_model.specs.Sealed.{the_book}
use Rattle.fwc_pair.specs.PairState.{PairFits}
use Rattle.view_spec.specs.Advisories.{Advisory, Fit}
use Rattle.limits_spec.specs.LimitsBytes.{limits}
use Rattle.advisories.specs.State.{settings_of, StandAfter}
use Rattle.advisories.specs.View.{limits_of}
use Rattle.advisories.specs.declared.limits.Limits.{Limits}
use Rattle.replay_core.specs.Calls.{Files, ShelfCall, OpenedOne, OpenedBoth, OpenedThree, SinkCall, WritesNothing}
use Rattle.replay_core.specs.Loading.{BookHas, Taken, past_limits, Unloaded}
use Rattle.replay_core.specs.LimitsLoading.{LimitsHave, HasLimitsFault, LoadsLimits, Unset, HasPrepared}
use Rattle.replay_core.specs.Answers.{ByReading, ByLimits}
use Rattle.record_views.specs.Showing.{Showing}
use Rattle.record_views.specs.declared.show.RunError.{RunError}
use Rattle.replay_core.specs.Play.{Shown}
use Rattle.replay_core.specs.ReadEndings.{Endings, showing}
use Rattle.replay_core.specs.Outcomes.{outcome_of, limits_outcome_of}
use Rattle.replay_core.specs.declared.advise.Prepared.{Prepared}
use Rattle.replay_core.specs.declared.load.Unready.{Unready}
use Rattle.replay_core.specs.declared.load.Unready.TheVariants as unready
use Rattle.replay_core.specs.declared.load_limits.UnreadyLimits.{UnreadyLimits}
use Rattle.replay_core.specs.declared.load_limits.UnreadyLimits.TheVariants.{Refused, Unread, NoMemory}
use Rattle.replay_core.specs.declared.outcome.Outcome.{Outcome}
use Rattle.replay_core.specs.declared.outcome.Outcome.TheVariants as outcomes
use Rattle.replay_core.proofs.Causes.{BookHas-weaker, book-and, joined, Follows, loaded, unopened, rose, run-ending, shown-so}

-- what follows from the limits that a file has
pub LimitsHave-weaker : (files : Files) (name : Text) (b : Book) (P Q : List Advisory → Type 0) → ((ls : List Advisory) → P ls → Q ls)
    → LimitsHave files name b P → LimitsHave files name b Q
LimitsHave-weaker files name b P Q then = FileHas-weaker files name (λ bytes. IsSomeAnd (limits b bytes) P) (λ bytes. IsSomeAnd (limits b bytes) Q) (λ bytes. each (limits b bytes)) where
  each : (o : Option (List Advisory)) → IsSomeAnd o P → IsSomeAnd o Q
  each None h = h
  each (Some ls) h = then ls h

-- ---- two calls of a shelf, the first of which loaded a book, and the second the limits

module _ (a c : ShelfCall) (name file : Text) (b : Book) (on : Follows a c name b) where
  pub limits-unset : (e : UnreadyLimits) → LoadsLimits c file b (Err e) → Unset (joined a c) name file e
  limits-unset (Refused g) faulty =
      loaded a c name file b on (λ b. FileHas a.files file (HasLimitsFault b g c.left)) (subst (λ files. FileHas files file (HasLimitsFault b g c.left)) on.same faulty)
  limits-unset Unread (inl un) = (loaded a c name file b on (λ b. Unit {0}) tt, inl (unopened a c name file b on un))
  limits-unset Unread (inr broken) = (
    loaded a c name file b on (λ b. Unit {0}) tt,
    inr (record { cause = rose a c name file b on broken.cause; opened = broken.opened; took = subst (λ files. Taken past_limits files file c.left) on.same broken.took }),
  )
  limits-unset NoMemory took = loaded a c name file b on (λ b. Taken past_limits a.files file c.left) (subst (λ files. Taken past_limits files file c.left) on.same took)

  pub limits-prepared : (l : Limits) (p : Prepared) → OpenedBoth (joined a c) → LoadsLimits c file b (Ok l) → Fit b (limits_of l)
      → the_book p.loaded.book ≡ b → PairFits b p.loaded.pair → settings_of p.view ≡ limits_of l → StandAfter b [] p.view
      → HasPrepared (joined a c) name file p
  limits-prepared l p count has fit is pair same begins = record {
    count = count;
    book = subst (λ x. BookHas a.files name (λ b. b ≡ x)) (sym is) on.has;
    limits_are = subst (λ x. LimitsHave a.files file x (λ ls. ls ≡ settings_of p.view)) (sym is)
        (subst (λ s. LimitsHave a.files file b (λ ls. ls ≡ s)) (sym same) (subst (λ files. LimitsHave files file b (λ ls. ls ≡ limits_of l)) on.same has));
    pair = subst (λ x. PairFits x p.loaded.pair) (sym is) pair;
    fit = subst (λ x. Fit x (settings_of p.view)) (sym is) (subst (Fit b) (sym same) fit);
    begins = subst (λ x. StandAfter x [] p.view) (sym is) begins;
  }

-- ---- the command

module _ {S : Type 0} (f : ShelfCall) (out : SinkCall S) (name record' file : Text) (e : List Advisory → Endings) where
  -- nothing stands ready
  pub unprepared-book : OpenedOne f → WritesNothing out → (u : Unready) → Unloaded f name u → ByLimits f out name record' file e (outcome_of u)
  unprepared-book once kept (unready.Refused g) faulty = record { count = once; faulty = faulty; kept = kept }
  unprepared-book once kept unready.Unread unread = inr (inl (record { count = once; unread = unread; kept = kept }))
  unprepared-book once kept unready.NoMemory took = inr (record { count = once; took = took; kept = kept })

  pub unprepared-limits : OpenedBoth f → WritesNothing out → (u : UnreadyLimits) → Unset f name file u → ByLimits f out name record' file e (limits_outcome_of u)
  unprepared-limits both kept (Refused g) cause = record { count = both; cause = cause; kept = kept }
  unprepared-limits both kept Unread cause = inl (record { count = both; cause = cause; kept = kept })
  unprepared-limits both kept NoMemory cause = inl (record { count = both; cause = cause; kept = kept })

  -- these limits stand ready
  module _ (ls : List Advisory) (there : BookHas f.files name (λ b. LimitsHave f.files file b (λ x. x ≡ ls))) where
    with-limits : (P : List Advisory → Book → Text → Option Text → Type 0) → BookHas f.files name (λ b. FileHas f.files record' (λ text. P ls b text f.left))
        → BookHas f.files name (λ b. FileHas f.files record' (λ text. LimitsHave f.files file b (λ ls. P ls b text f.left)))
    with-limits P has =
        BookHas-weaker f.files name (λ b. LimitsHave f.files file b (λ x. x ≡ ls) × FileHas f.files record' (λ text. P ls b text f.left)) _
        (λ b both. FileHas-weaker f.files record' (λ text. P ls b text f.left) (λ text. LimitsHave f.files file b (λ ls. P ls b text f.left))
        (λ text so. LimitsHave-weaker f.files file b (λ x. x ≡ ls) (λ x. P x b text f.left) (λ x is. subst (λ x. P x b text f.left) (sym is) so) both.0) both.1)
        (book-and f.files name (λ b. LimitsHave f.files file b (λ x. x ≡ ls)) (λ b. FileHas f.files record' (λ text. P ls b text f.left)) there has)

    accepted : (P : List Advisory → Book → Type 0) → BookHas f.files name (P ls) → BookHas f.files name (λ b. LimitsHave f.files file b (λ ls. P ls b))
    accepted P has =
        BookHas-weaker f.files name (λ b. LimitsHave f.files file b (λ x. x ≡ ls) × P ls b) _
        (λ b both. LimitsHave-weaker f.files file b (λ x. x ≡ ls) (λ x. P x b) (λ x is. subst (λ x. P x b) (sym is) both.1) both.0)
        (book-and f.files name (λ b. LimitsHave f.files file b (λ x. x ≡ ls)) (P ls) there has)

    pub by-its-limits : (o : Outcome) → ByReading f out (OpenedThree f) name record' (e ls) o → ByLimits f out name record' file e o
    by-its-limits outcomes.Done has = record { count = has.count; both = with-limits (λ ls. (e ls).whole) has.both }
    by-its-limits outcomes.Usage never = never
    by-its-limits (outcomes.BookRefused g) has = has
    by-its-limits (outcomes.RecordRefused g) has = record { count = has.count; both = with-limits (λ ls. (e ls).refused g) has.both }
    by-its-limits outcomes.ReadFault (inl has) = inr (inl has)
    by-its-limits outcomes.ReadFault (inr (inl has)) =
        inr (inr (inl (record { count = has.count; accepted = accepted (λ ls. (e ls).accepts) has.accepted; unopened = has.unopened; kept = has.kept })))
    by-its-limits outcomes.ReadFault (inr (inr has)) =
        inr (inr (inr (record { count = has.count; cause = has.cause; opened = has.opened; both = with-limits (λ ls. (e ls).broken) has.both })))
    by-its-limits outcomes.WriteFault has = record { count = has.count; cause = has.cause; both = with-limits (λ ls. (e ls).stopped) has.both }
    by-its-limits outcomes.NoMemory has = inr has
    by-its-limits outcomes.NoSuch never = never
    by-its-limits (outcomes.LimitsRefused g) never = absurd never

-- the limits of a prepared view are those of the file
pub prepared-limits : (f : ShelfCall) (name file : Text) (p : Prepared) → HasPrepared f name file p
    → BookHas f.files name (λ b. LimitsHave f.files file b (λ x. x ≡ settings_of p.view))
prepared-limits f name file p has =
    BookHas-weaker f.files name (λ b. b ≡ the_book p.loaded.book) (λ b. LimitsHave f.files file b (λ x. x ≡ settings_of p.view))
    (λ b is. subst (λ b. LimitsHave f.files file b (λ x. x ≡ settings_of p.view)) (sym is) has.limits_are) has.book

-- they were made ready in a first call of the shelf, and the record shown in a second
pub shown-after-preparing : (a c : ShelfCall) (name record' file : Text) (p : Prepared) → c.files ≡ a.files → c.faults ≡ a.faults_now → c.opens ≡ a.opens_now
    → a.faults ≤ a.faults_now → HasPrepared a name file p → {S : Type 0} (out : SinkCall S) (o : List Advisory → Book → Showing) (limit : ℕ) (result : Result (Unit {0}) RunError)
    → OpenedOne c → Shown c out (the_book p.loaded.book) (o (settings_of p.view) (the_book p.loaded.book)) record' limit result
    → ByLimits (joined a c) out name record' file (λ ls. showing out (o ls) limit) (run-ending result)
shown-after-preparing a c name record' file p same faults opens less has out o limit result again shown =
    let b = the_book p.loaded.book in
    let on : Follows a c name b = record { same = same; faults = faults; less = less; has = has.book } in
    by-its-limits (joined a c) out name record' file (λ ls. showing out (o ls) limit) (settings_of p.view) (prepared-limits a name file p has) (run-ending result)
    (shown-so a c name record' b on out (OpenedThree (joined a c)) (again ∙ ap raised opens ∙ ap raised has.count) (o (settings_of p.view)) limit result shown)
