-- Which ending must come, where a shelf tells its files and nothing failed.
use Rattle.std.proofs.Common.{◌≡◌, ◌⊎◌, ℕ, true, List, Option, Some, None, IsSomeAnd, refl, sym, ◌∙◌, ap, subst, inl, inr}
use Rattle.std.specs.Prelude.{is_some}
use Rattle.ecam_io.specs.Outside.{FileHas, LacksFile, file_named}
use Rattle.ecam_spec.specs.declared.kinds.BookFault.{BookFault}
use Rattle.ecam_spec.specs.declared.kinds.RecordFault.{RecordFault}
use Rattle.ecam_spec.specs.Book.{Text, Book}
use Rattle.ecam_spec.specs.Command.{Command, command_of, check, replay, why, drill, migrate, callouts, advise, report, words, no_limit}
use Rattle.ecam_spec.specs.Record.{fault}
use Rattle.ecam_spec.specs.Summary.{summary}
use Rattle.book_spec.specs.BookBytes.{book_fault, book}
use Rattle.view_spec.specs.Advisories.{Advisory}
use Rattle.view_spec.specs.Places.{number_place}
use Rattle.limits_spec.specs.LimitsBytes.{limits_fault, limits}
use Rattle.limits_spec.specs.declared.form.LimitsFault.{LimitsFault}
use Rattle.record_views.specs.Showing.{blocks_of}
use Rattle.replay_core.specs.Calls.{ShelfCall, OpenedBoth, OpenedThree, HasFailed, SinkCall, Writes, HasFailedToWrite}
use Rattle.replay_core.specs.Drill.{drill_line}
use Rattle.replay_core.specs.Showings.{called_out, advised, report_of, words_of}
use Rattle.replay_core.specs.Loading.{BookHas, HasFault, IsUnopened, IsUnread}
use Rattle.replay_core.specs.LimitsLoading.{LimitsHave, HasLimitsFault, Unset}
use Rattle.replay_core.specs.Migrations.{HasMigrated}
use Rattle.replay_core.specs.Answers.{ByBookAlone, BookTold, BookUntold, Migrated, HalfMigrated, ByReading, ByRecord, ByNumber, LacksNumber, ByLimits, WithoutLimits, WithLimits, Ends}
use Rattle.replay_core.specs.ReadEndings.{Endings, showing, HasNumber, numbered, under, explaining}
use Rattle.replay_core.specs.Decides.{book_asked, record_asked, number_asked, limits_asked, Serves, IsButForMemory, Decides, DecidesUsage}
use Rattle.replay_core.specs.Outcomes.{status_of, limits_outcome_of}
use Rattle.replay_core.specs.declared.load_limits.UnreadyLimits.{UnreadyLimits}
use Rattle.replay_core.specs.declared.load_limits.UnreadyLimits.TheVariants as unready
use Rattle.replay_core.specs.declared.outcome.Status.{Status}
use Rattle.replay_core.specs.declared.outcome.Status.TheVariants as statuses
use Rattle.replay_core.specs.declared.outcome.Outcome.{Outcome}
use Rattle.replay_core.specs.declared.outcome.Outcome.TheVariants as outcomes
use Rattle.replay_core.proofs.Causes.{BookHas-weaker}
use Rattle.replay_core.proofs.Limited.{LimitsHave-weaker}
use Rattle.replay_core.proofs.BookFacts.{book-faultless}
use Rattle.replay_core.proofs.LimitsFacts.{limits-faultless}

some-pair : (p q : Text × ℕ) → Some p ≡ Some q → p ≡ q
some-pair p q e = cc

some-text : (s t : Text) → Some s ≡ Some t → s ≡ t
some-text s t e = cc

some-book : (b c : Book) → Some b ≡ Some c → b ≡ c
some-book b c e = cc

-- what there is, of which something is known
found : {A : Type 0} (o : Option A) (P : A → Type 0) → IsSomeAnd o P → (a : A) × (o ≡ Some a) × P a
found None P has = absurd has
found (Some a) P has = (a, refl, has)

-- ---- words without a form

-- any other outcome has another status
formed : (o : Outcome) → ((o ≡ outcomes.Usage) → ⊥) → status_of o ≡ statuses.Usage → ⊥
formed outcomes.Usage not is = not refl
formed outcomes.Done not is = let never : ⊥ = cc in never
formed (outcomes.BookRefused g) not is = let never : ⊥ = cc in never
formed (outcomes.RecordRefused g) not is = let never : ⊥ = cc in never
formed outcomes.ReadFault not is = let never : ⊥ = cc in never
formed outcomes.WriteFault not is = let never : ⊥ = cc in never
formed outcomes.NoMemory not is = let never : ⊥ = cc in never
formed outcomes.NoSuch not is = let never : ⊥ = cc in never
formed (outcomes.LimitsRefused g) not is = let never : ⊥ = cc in never

module _ (f : ShelfCall) {S : Type 0} (out : SinkCall S) where
  -- the number is lacking, or the command ends as one that reads a record
  by-number : (name record' number : Text) (e : Endings) (o : Outcome) → ByNumber f out name record' number e o
      → (LacksNumber f out name record' number × (o ≡ outcomes.NoSuch)) ⊎ ByRecord f out name record' (numbered number e) o
  by-number name record' number e outcomes.NoSuch has = inl (has, refl)
  by-number name record' number e outcomes.Done has = inr has
  by-number name record' number e outcomes.Usage has = inr has
  by-number name record' number e (outcomes.BookRefused g) has = inr has
  by-number name record' number e (outcomes.RecordRefused g) has = inr has
  by-number name record' number e outcomes.ReadFault has = inr has
  by-number name record' number e outcomes.WriteFault has = inr has
  by-number name record' number e outcomes.NoMemory has = inr has
  by-number name record' number e (outcomes.LimitsRefused g) has = inr has

  -- no limits stand ready, or it ends so too
  by-limits : (name record' file : Text) (e : List Advisory → Endings) (o : Outcome) → ByLimits f out name record' file e o
      → ((u : UnreadyLimits) × WithoutLimits f out name record' file u × (o ≡ limits_outcome_of u)) ⊎ WithLimits f out name record' file e o
  by-limits name record' file e (outcomes.LimitsRefused g) has = inl (unready.Refused g, has, refl)
  by-limits name record' file e outcomes.ReadFault (inl has) = inl (unready.Unread, has, refl)
  by-limits name record' file e outcomes.ReadFault (inr has) = inr has
  by-limits name record' file e outcomes.NoMemory (inl has) = inl (unready.NoMemory, has, refl)
  by-limits name record' file e outcomes.NoMemory (inr has) = inr has
  by-limits name record' file e outcomes.Done has = inr has
  by-limits name record' file e outcomes.Usage has = inr has
  by-limits name record' file e (outcomes.BookRefused g) has = inr has
  by-limits name record' file e (outcomes.RecordRefused g) has = inr has
  by-limits name record' file e outcomes.WriteFault has = inr has
  by-limits name record' file e outcomes.NoSuch has = inr has

  -- a command that was asked for doesn't end so
  useful : (c : Command) (o : Outcome) → Ends f out (Some c) o → o ≡ outcomes.Usage → ⊥
  useful (check name) o ends is = subst (Ends f out (Some (check name))) is ends
  useful (drill name seed moments) o ends is = subst (Ends f out (Some (drill name seed moments))) is ends
  useful (migrate name) o ends is = subst (Ends f out (Some (migrate name))) is ends
  useful (replay name record' limit) o ends is = subst (Ends f out (Some (replay name record' limit))) is ends
  useful (callouts name record' number) o ends is = subst (Ends f out (Some (callouts name record' number))) is ends
  useful (advise name record' file) o ends is = subst (Ends f out (Some (advise name record' file))) is ends
  useful (report name record') o ends is = subst (Ends f out (Some (report name record'))) is ends
  useful (words name record') o ends is = subst (Ends f out (Some (words name record'))) is ends
  useful (why name record') o ends is = subst (Ends f out (Some (why name record'))) is ends

  formless : (c : Option Command) (o : Outcome) → Ends f out c o → status_of o ≡ statuses.Usage → c ≡ None
  formless None o ends is = refl
  formless (Some c) o ends is = absurd (formed o (useful c o ends) is)

  pub decided-usage : (line : List Text) (o : Outcome) → Ends f out (command_of line) o → DecidesUsage line (status_of o)
  decided-usage line o ends = record {
    usage = λ none. ap status_of (subst (λ c. Ends f out c o) none ends).usage;
    form = λ is. formless (command_of line) o ends is;
  }

-- ---- the files decide

module _ (told : List (Text × Text)) (f : ShelfCall) (told-is : f.files ≡ Some told) {S : Type 0} (out : SinkCall S) (quiet : HasFailed f → ⊥) (out-quiet : HasFailedToWrite out → ⊥) where
  -- what is known of a file holds of its bytes
  file-is : (name bytes : Text) (P : Text → Type 0) → file_named told name ≡ Some bytes → FileHas f.files name P → P bytes
  file-is name bytes P there has = subst (λ o. IsSomeAnd o P) there (subst (λ files. FileHas files name P) told-is has)

  -- and such a file is there
  file-found : (name : Text) (P : Text → Type 0) → FileHas f.files name P → (t : Text) × (file_named told name ≡ Some t) × P t
  file-found name P has = found (file_named told name) P (subst (λ files. FileHas files name P) told-is has)

  book-in : (name bytes : Text) (P : Book → Type 0) → file_named told name ≡ Some bytes → BookHas f.files name P → (b : Book) × (book bytes ≡ Some b) × P b
  book-in name bytes P there has = found (book bytes) P (file-is name bytes (λ bytes. IsSomeAnd (book bytes) P) there has)

  limits-in : (file : Text) (b : Book) (P : List Advisory → Type 0) → LimitsHave f.files file b P → (ls : List Advisory) × P ls
  limits-in file b P has =
      let t = file-found file (λ bytes. IsSomeAnd (limits b bytes) P) has in
      let ls = found (limits b t.0) P t.2 in
      (ls.0, ls.2)

  -- a file that is there isn't lacking
  not-lacking : (name bytes : Text) → file_named told name ≡ Some bytes → LacksFile f.files name → ⊥
  not-lacking name bytes there lacks = let none : file_named told name ≡ None = subst (λ files. LacksFile files name) told-is lacks in let never : ⊥ = cc in never

  -- where no fault was counted, a file that is there is opened
  is-opened : (name bytes : Text) → file_named told name ≡ Some bytes → IsUnopened f name → ⊥
  is-opened name bytes there has = elim has.cause [ inl rose ↦ quiet rose | inr lacks ↦ not-lacking name bytes there lacks ]

  -- and read
  is-read : (most : ℕ) (name bytes : Text) → file_named told name ≡ Some bytes → IsUnread most f name → ⊥
  is-read most name bytes there (inl has) = is-opened name bytes there has
  is-read most name bytes there (inr has) = quiet has.cause

  module _ (name bytes : Text) (there : file_named told name ≡ Some bytes) where
    -- the book has a fault
    module _ (g : BookFault) (faulty : book_fault bytes ≡ Some g) where
      no-book : (P : Book → Type 0) → BookHas f.files name P → ⊥
      no-book P has =
          let b = book-in name bytes P there has in
          let none = book-faultless bytes b.0 b.1 in
          let never : ⊥ = cc in never

      not-migrated : (P : Text → Type 0) → FileHas f.files name (HasMigrated P f.left) → ⊥
      not-migrated P has = let none = (file-is name bytes (HasMigrated P f.left) there has).migrated.faultless in let never : ⊥ = cc in never

      book-refuses : (done unwritten : Type 0) → (done → ⊥) → (unwritten → HasFailedToWrite out) → (o : Outcome) → ByBookAlone f out name done unwritten o
          → IsButForMemory statuses.BookRefused (status_of o)
      book-refuses done unwritten not cause outcomes.Done has = absurd (not has)
      book-refuses done unwritten not cause outcomes.Usage never = absurd never
      book-refuses done unwritten not cause (outcomes.BookRefused h) has = inl refl
      book-refuses done unwritten not cause (outcomes.RecordRefused h) never = absurd never
      book-refuses done unwritten not cause outcomes.ReadFault has = absurd (is-read _ name bytes there has.unread)
      book-refuses done unwritten not cause outcomes.WriteFault has = absurd (out-quiet (cause has))
      book-refuses done unwritten not cause outcomes.NoMemory has = inr refl
      book-refuses done unwritten not cause outcomes.NoSuch never = absurd never
      book-refuses done unwritten not cause (outcomes.LimitsRefused h) never = absurd never

      told-refuses : (writes : Book → Text) (o : Outcome) → ByBookAlone f out name (BookTold f out name writes) (BookUntold f out name writes) o
          → IsButForMemory statuses.BookRefused (status_of o)
      told-refuses writes = book-refuses (BookTold f out name writes) (BookUntold f out name writes) (λ has. no-book _ has.told) (λ has. has.cause)

      reading-refuses : (Opened : Type 0) (record' : Text) (e : Endings) (o : Outcome) → ByReading f out Opened name record' e o → IsButForMemory statuses.BookRefused (status_of o)
      reading-refuses Opened record' e outcomes.Done has = absurd (no-book _ has.both)
      reading-refuses Opened record' e outcomes.Usage never = absurd never
      reading-refuses Opened record' e (outcomes.BookRefused h) has = inl refl
      reading-refuses Opened record' e (outcomes.RecordRefused h) has = absurd (no-book _ has.both)
      reading-refuses Opened record' e outcomes.ReadFault (inl has) = absurd (is-read _ name bytes there has.unread)
      reading-refuses Opened record' e outcomes.ReadFault (inr (inl has)) = absurd (no-book _ has.accepted)
      reading-refuses Opened record' e outcomes.ReadFault (inr (inr has)) = absurd (quiet has.cause)
      reading-refuses Opened record' e outcomes.WriteFault has = absurd (out-quiet has.cause)
      reading-refuses Opened record' e outcomes.NoMemory has = inr refl
      reading-refuses Opened record' e outcomes.NoSuch never = absurd never
      reading-refuses Opened record' e (outcomes.LimitsRefused h) never = absurd never

      number-refuses : (record' number : Text) (e : Endings) (o : Outcome) → ByNumber f out name record' number e o → IsButForMemory statuses.BookRefused (status_of o)
      number-refuses record' number e o has = elim (by-number f out name record' number e o has) [
        | inl lacks ↦ absurd (no-book _ lacks.0.lacks)
        | inr ends ↦ reading-refuses (OpenedBoth f) record' (numbered number e) o ends
      ]

      unset-refuses : (file : Text) (u : UnreadyLimits) → Unset f name file u → IsButForMemory statuses.BookRefused (status_of (limits_outcome_of u))
      unset-refuses file (unready.Refused h) cause = absurd (no-book _ cause)
      unset-refuses file unready.Unread cause = absurd (no-book _ cause.0)
      unset-refuses file unready.NoMemory cause = inr refl

      limits-refuse : (record' file : Text) (e : List Advisory → Endings) (o : Outcome) → ByLimits f out name record' file e o → IsButForMemory statuses.BookRefused (status_of o)
      limits-refuse record' file e o has = elim (by-limits f out name record' file e o has) [
        | inl unset ↦ subst (λ o. IsButForMemory statuses.BookRefused (status_of o)) (sym unset.2) (unset-refuses file unset.0 unset.1.cause)
        | inr ends ↦ reading-refuses (OpenedThree f) record' (under f.files file e) o ends
      ]

    -- it has none
    module _ (faultless-book : book_fault bytes ≡ None) where
      unrefused : (g : BookFault) → FileHas f.files name (λ bytes. HasFault bytes g f.left) → ⊥
      unrefused g has = let some = (file-is name bytes (λ bytes. HasFault bytes g f.left) there has).fault_is in let never : ⊥ = cc in never

      book-tells : (done unwritten : Type 0) → (unwritten → HasFailedToWrite out) → (o : Outcome) → ByBookAlone f out name done unwritten o → IsButForMemory statuses.Done (status_of o)
      book-tells done unwritten cause outcomes.Done has = inl refl
      book-tells done unwritten cause outcomes.Usage never = absurd never
      book-tells done unwritten cause (outcomes.BookRefused h) has = absurd (unrefused h has.faulty)
      book-tells done unwritten cause (outcomes.RecordRefused h) never = absurd never
      book-tells done unwritten cause outcomes.ReadFault has = absurd (is-read _ name bytes there has.unread)
      book-tells done unwritten cause outcomes.WriteFault has = absurd (out-quiet (cause has))
      book-tells done unwritten cause outcomes.NoMemory has = inr refl
      book-tells done unwritten cause outcomes.NoSuch never = absurd never
      book-tells done unwritten cause (outcomes.LimitsRefused h) never = absurd never

      -- a command that reads a record of these bytes
      module _ (Opened : Type 0) (record' : Text) (limit : ℕ) (e : Endings)
          (sound : (b : Book) (text : Text) (left : Option Text) → e.whole b text left → fault text limit ≡ None)
          (unsound : (g : RecordFault) (b : Book) (text : Text) (left : Option Text) → e.refused g b text left → fault text limit ≡ Some g)
          (text : Text) (behind : file_named told record' ≡ Some text) where
        -- what was reached holds of the book and of the record's bytes
        reached : (P : Book → Text → Option Text → Type 0) → BookHas f.files name (λ b. FileHas f.files record' (λ text. P b text f.left)) → (b : Book) × P b text f.left
        reached P has =
            let b = book-in name bytes (λ b. FileHas f.files record' (λ text. P b text f.left)) there has in
            (b.0, file-is record' text (λ text. P b.0 text f.left) behind b.2)

        -- the record has a fault
        refuses-record : (g : RecordFault) → fault text limit ≡ Some g → (o : Outcome) → ByReading f out Opened name record' e o → IsButForMemory statuses.RecordRefused (status_of o)
        refuses-record g faulty outcomes.Done has = let r = reached e.whole has.both in let none = sound r.0 text f.left r.1 in let never : ⊥ = cc in absurd never
        refuses-record g faulty outcomes.Usage never = absurd never
        refuses-record g faulty (outcomes.BookRefused h) has = absurd (unrefused h has.faulty)
        refuses-record g faulty (outcomes.RecordRefused h) has = inl refl
        refuses-record g faulty outcomes.ReadFault (inl has) = absurd (is-read _ name bytes there has.unread)
        refuses-record g faulty outcomes.ReadFault (inr (inl has)) = absurd (is-opened record' text behind has.unopened)
        refuses-record g faulty outcomes.ReadFault (inr (inr has)) = absurd (quiet has.cause)
        refuses-record g faulty outcomes.WriteFault has = absurd (out-quiet has.cause)
        refuses-record g faulty outcomes.NoMemory has = inr refl
        refuses-record g faulty outcomes.NoSuch never = absurd never
        refuses-record g faulty (outcomes.LimitsRefused h) never = absurd never

        -- it has none
        does : fault text limit ≡ None → (o : Outcome) → ByReading f out Opened name record' e o → IsButForMemory statuses.Done (status_of o)
        does faultless outcomes.Done has = inl refl
        does faultless outcomes.Usage never = absurd never
        does faultless (outcomes.BookRefused h) has = absurd (unrefused h has.faulty)
        does faultless (outcomes.RecordRefused h) has = let r = reached (e.refused h) has.both in let some = unsound h r.0 text f.left r.1 in let never : ⊥ = cc in absurd never
        does faultless outcomes.ReadFault (inl has) = absurd (is-read _ name bytes there has.unread)
        does faultless outcomes.ReadFault (inr (inl has)) = absurd (is-opened record' text behind has.unopened)
        does faultless outcomes.ReadFault (inr (inr has)) = absurd (quiet has.cause)
        does faultless outcomes.WriteFault has = absurd (out-quiet has.cause)
        does faultless outcomes.NoMemory has = inr refl
        does faultless outcomes.NoSuch never = absurd never
        does faultless (outcomes.LimitsRefused h) never = absurd never

      -- one that was asked for
      module _ (Opened : Type 0) (record' : Text) (limit : ℕ) (e : Endings)
          (sound : (b : Book) (text : Text) (left : Option Text) → e.whole b text left → fault text limit ≡ None)
          (unsound : (g : RecordFault) (b : Book) (text : Text) (left : Option Text) → e.refused g b text left → fault text limit ≡ Some g)
          (r : Text) (l : ℕ) (asks : ◌≡◌ {A = Option (Text × ℕ)} (Some (record', limit)) (Some (r, l))) (text : Text) (behind : file_named told r ≡ Some text) where
        same-file : file_named told record' ≡ Some text
        same-file = subst (λ r. file_named told r ≡ Some text) (sym (ap (λ (p : Text × ℕ). p.0) (some-pair (record', limit) (r, l) asks))) behind

        same-limit : l ≡ limit
        same-limit = sym (ap (λ (p : Text × ℕ). p.1) (some-pair (record', limit) (r, l) asks))

        asked-refused : (g : RecordFault) → fault text l ≡ Some g → (o : Outcome) → ByReading f out Opened name record' e o → IsButForMemory statuses.RecordRefused (status_of o)
        asked-refused g faulty = refuses-record Opened record' limit e sound unsound text same-file g (subst (λ l. fault text l ≡ Some g) same-limit faulty)

        asked-does : fault text l ≡ None → (o : Outcome) → ByReading f out Opened name record' e o → IsButForMemory statuses.Done (status_of o)
        asked-does faultless = does Opened record' limit e sound unsound text same-file (subst (λ l. fault text l ≡ None) same-limit faultless)

      -- a book has one of its names
      same-book : (b : Book) → book bytes ≡ Some b → (P : Book → Type 0) → BookHas f.files name P → P b
      same-book b is P has =
          let c = book-in name bytes P there has in
          subst P (some-book c.0 b (sym c.1 ∙ is)) c.2

      -- the command goes by a number parameter
      module _ (record' number : Text) (e : Endings) where
        -- there is one
        number-found : (serves : (b : Book) → book bytes ≡ Some b → HasNumber number b) → (o : Outcome) → ByNumber f out name record' number e o
            → ByRecord f out name record' (numbered number e) o
        number-found serves o has = elim (by-number f out name record' number e o has) [
          | inl lacks ↦
              let b = book-in name bytes (λ b. number_place b number ≡ None) there lacks.0.lacks in
              let there-is : is_some (number_place b.0 number) ≡ true = serves b.0 b.1 in
              let none : number_place b.0 number ≡ None = b.2 in
              absurd (let never : ⊥ = cc in never)
          | inr ends ↦ ends
        ]

        -- there is none
        module _ (b : Book) (is : book bytes ≡ Some b) (none : number_place b number ≡ None) where
          not-in : BookHas f.files name (HasNumber number) → ⊥
          not-in has = let there-is : is_some (number_place b number) ≡ true = same-book b is (HasNumber number) has in let never : ⊥ = cc in never

          -- nor was one found on the way to the record
          not-both : (P : Book → Text → Option Text → Type 0)
              → BookHas f.files name (λ b. FileHas f.files record' (λ text. HasNumber number b × P b text f.left)) → ⊥
          not-both P has =
              not-in (BookHas-weaker f.files name _ (HasNumber number)
              (λ b reached. (file-found record' (λ text. HasNumber number b × P b text f.left) reached).2.0) has)

          number-lacks : (o : Outcome) → ByRecord f out name record' (numbered number e) o → IsButForMemory statuses.NoSuch (status_of o)
          number-lacks outcomes.Done has = absurd (not-both e.whole has.both)
          number-lacks outcomes.Usage never = absurd never
          number-lacks (outcomes.BookRefused h) has = absurd (unrefused h has.faulty)
          number-lacks (outcomes.RecordRefused h) has = absurd (not-both (e.refused h) has.both)
          number-lacks outcomes.ReadFault (inl has) = absurd (is-read _ name bytes there has.unread)
          number-lacks outcomes.ReadFault (inr (inl has)) = absurd (not-in has.accepted)
          number-lacks outcomes.ReadFault (inr (inr has)) = absurd (quiet has.cause)
          number-lacks outcomes.WriteFault has = absurd (out-quiet has.cause)
          number-lacks outcomes.NoMemory has = inr refl
          number-lacks outcomes.NoSuch never = absurd never
          number-lacks (outcomes.LimitsRefused h) never = absurd never

          unnumbered-so : (o : Outcome) → ByNumber f out name record' number e o → IsButForMemory statuses.NoSuch (status_of o)
          unnumbered-so o has = elim (by-number f out name record' number e o has) [
            | inl lacks ↦ inl (ap status_of lacks.1)
            | inr ends ↦ number-lacks o ends
          ]

      -- the command goes by a file of limits
      module _ (record' file : Text) (e : List Advisory → Endings) where
        -- it is there, and has no fault
        module _ (serves : (b : Book) → book bytes ≡ Some b → IsSomeAnd (file_named told file) (λ text. limits_fault b text ≡ None)) where
          unset-lacks : (u : UnreadyLimits) → Unset f name file u → limits_outcome_of u ≡ outcomes.NoMemory
          unset-lacks (unready.Refused g) cause =
              let b = book-in name bytes (λ b. FileHas f.files file (HasLimitsFault b g f.left)) there cause in
              let t = found (file_named told file) (λ text. limits_fault b.0 text ≡ None) (serves b.0 b.1) in
              let some = (file-is file t.0 (HasLimitsFault b.0 g f.left) t.1 b.2).fault_is in
              let none = t.2 in
              absurd (let never : ⊥ = cc in never)
          unset-lacks unready.Unread cause =
              let b = book-in name bytes (λ b. Unit {0}) there cause.0 in
              let t = found (file_named told file) (λ text. limits_fault b.0 text ≡ None) (serves b.0 b.1) in
              absurd (is-read _ file t.0 t.1 cause.1)
          unset-lacks unready.NoMemory cause = refl

          limits-found : (status : Status) (o : Outcome) → (WithLimits f out name record' file e o → IsButForMemory status (status_of o))
              → ByLimits f out name record' file e o → IsButForMemory status (status_of o)
          limits-found status o then has = elim (by-limits f out name record' file e o has) [
            | inl unset ↦ inr (ap status_of (unset.2 ∙ unset-lacks unset.0 unset.1.cause))
            | inr ends ↦ then ends
          ]

        -- it has a fault
        module _ (b : Book) (is : book bytes ≡ Some b) (text : Text) (behind : file_named told file ≡ Some text) (g : LimitsFault) (faulty : limits_fault b text ≡ Some g) where
          no-limits : BookHas f.files name (λ b. LimitsHave f.files file b (λ ls. Unit {0})) → ⊥
          no-limits has =
              let have = same-book b is (λ b. LimitsHave f.files file b (λ ls. Unit {0})) has in
              let ls = found (limits b text) (λ ls. Unit {0}) (file-is file text (λ bytes. IsSomeAnd (limits b bytes) (λ ls. Unit {0})) behind have) in
              let none = limits-faultless b text ls.0 ls.1 in
              let never : ⊥ = cc in never

          none-accepted : (P : List Advisory → Book → Type 0) → BookHas f.files name (λ b. LimitsHave f.files file b (λ ls. P ls b)) → ⊥
          none-accepted P has = no-limits (BookHas-weaker f.files name _ (λ b. LimitsHave f.files file b (λ ls. Unit {0}))
              (λ b. LimitsHave-weaker f.files file b (λ ls. P ls b) (λ ls. Unit {0}) (λ ls so. tt)) has)

          none-reached : (P : List Advisory → Book → Text → Option Text → Type 0)
              → BookHas f.files name (λ b. FileHas f.files record' (λ text. LimitsHave f.files file b (λ ls. P ls b text f.left))) → ⊥
          none-reached P has = no-limits (BookHas-weaker f.files name _ (λ b. LimitsHave f.files file b (λ ls. Unit {0}))
              (λ b reached.
              let t = file-found record' (λ text. LimitsHave f.files file b (λ ls. P ls b text f.left)) reached in
              LimitsHave-weaker f.files file b (λ ls. P ls b t.0 f.left) (λ ls. Unit {0}) (λ ls so. tt) t.2) has)

          unset-so : (u : UnreadyLimits) → Unset f name file u → IsButForMemory statuses.LimitsRefused (status_of (limits_outcome_of u))
          unset-so (unready.Refused h) cause = inl refl
          unset-so unready.Unread cause = absurd (is-read _ file text behind cause.1)
          unset-so unready.NoMemory cause = inr refl

          limits-lack : (o : Outcome) → WithLimits f out name record' file e o → IsButForMemory statuses.LimitsRefused (status_of o)
          limits-lack outcomes.Done has = absurd (none-reached (λ ls. (e ls).whole) has.both)
          limits-lack outcomes.Usage never = absurd never
          limits-lack (outcomes.BookRefused h) has = absurd (unrefused h has.faulty)
          limits-lack (outcomes.RecordRefused h) has = absurd (none-reached (λ ls. (e ls).refused h) has.both)
          limits-lack outcomes.ReadFault (inl has) = absurd (is-read _ name bytes there has.unread)
          limits-lack outcomes.ReadFault (inr (inl has)) = absurd (none-accepted (λ ls. (e ls).accepts) has.accepted)
          limits-lack outcomes.ReadFault (inr (inr has)) = absurd (quiet has.cause)
          limits-lack outcomes.WriteFault has = absurd (out-quiet has.cause)
          limits-lack outcomes.NoMemory has = inr refl
          limits-lack outcomes.NoSuch never = absurd never
          limits-lack (outcomes.LimitsRefused h) never = absurd never

          limits-refused-so : (o : Outcome) → ByLimits f out name record' file e o → IsButForMemory statuses.LimitsRefused (status_of o)
          limits-refused-so o has = elim (by-limits f out name record' file e o has) [
            | inl unset ↦ subst (λ o. IsButForMemory statuses.LimitsRefused (status_of o)) (sym unset.2) (unset-so unset.0 unset.1.cause)
            | inr ends ↦ limits-lack o ends
          ]

  -- ---- for each command

  refused : (c : Command) (o : Outcome) → Ends f out (Some c) o
      → (bytes : Text) → file_named told (book_asked c) ≡ Some bytes → (g : BookFault) → book_fault bytes ≡ Some g → IsButForMemory statuses.BookRefused (status_of o)
  refused (check name) o ends bytes there g faulty = told-refuses name bytes there g faulty summary o ends
  refused (drill name seed moments) o ends bytes there g faulty = told-refuses name bytes there g faulty (drill_line seed moments) o ends
  refused (migrate name) o ends bytes there g faulty =
      book-refuses name bytes there g faulty (Migrated f out name) (HalfMigrated f out name) (λ has. not-migrated name bytes there g faulty (Writes out) has.told) (λ has. has.cause) o ends
  refused (replay name record' limit) o ends bytes there g faulty = reading-refuses name bytes there g faulty (OpenedBoth f) record' (showing out blocks_of limit) o ends
  refused (callouts name record' number) o ends bytes there g faulty = number-refuses name bytes there g faulty record' number (showing out (called_out number) no_limit) o ends
  refused (advise name record' file) o ends bytes there g faulty = limits-refuse name bytes there g faulty record' file (λ ls. showing out (advised ls) no_limit) o ends
  refused (report name record') o ends bytes there g faulty = reading-refuses name bytes there g faulty (OpenedBoth f) record' (showing out report_of no_limit) o ends
  refused (words name record') o ends bytes there g faulty = reading-refuses name bytes there g faulty (OpenedBoth f) record' (showing out words_of no_limit) o ends
  refused (why name record') o ends bytes there g faulty = reading-refuses name bytes there g faulty (OpenedBoth f) record' (explaining out) o ends

  tells : (c : Command) (o : Outcome) → Ends f out (Some c) o → record_asked c ≡ None
      → (bytes : Text) → file_named told (book_asked c) ≡ Some bytes → book_fault bytes ≡ None → IsButForMemory statuses.Done (status_of o)
  tells (check name) o ends none bytes there faultless = book-tells name bytes there faultless (BookTold f out name summary) (BookUntold f out name summary) (λ has. has.cause) o ends
  tells (drill name seed moments) o ends none bytes there faultless =
      book-tells name bytes there faultless (BookTold f out name (drill_line seed moments)) (BookUntold f out name (drill_line seed moments)) (λ has. has.cause) o ends
  tells (migrate name) o ends none bytes there faultless = book-tells name bytes there faultless (Migrated f out name) (HalfMigrated f out name) (λ has. has.cause) o ends
  tells (replay name record' limit) o ends none bytes there faultless = absurd (let w : ⊥ = cc in w)
  tells (why name record') o ends none bytes there faultless = absurd (let w : ⊥ = cc in w)
  tells (callouts name record' number) o ends none bytes there faultless = absurd (let w : ⊥ = cc in w)
  tells (advise name record' file) o ends none bytes there faultless = absurd (let w : ⊥ = cc in w)
  tells (report name record') o ends none bytes there faultless = absurd (let w : ⊥ = cc in w)
  tells (words name record') o ends none bytes there faultless = absurd (let w : ⊥ = cc in w)

  lacking : (c : Command) (o : Outcome) → Ends f out (Some c) o
      → (bytes : Text) → file_named told (book_asked c) ≡ Some bytes → book_fault bytes ≡ None → (b : Book) → book bytes ≡ Some b
      → (number : Text) → number_asked c ≡ Some number → number_place b number ≡ None → IsButForMemory statuses.NoSuch (status_of o)
  lacking (callouts name record' asked) o ends bytes there faultless b is number asks none =
      let same : asked ≡ number = some-text asked number asks in
      unnumbered-so name bytes there faultless record' asked (showing out (called_out asked) no_limit) b is (subst (λ n. number_place b n ≡ None) (sym same) none) o ends
  lacking (check name) o ends bytes there faultless b is number asks none = absurd (let w : ⊥ = cc in w)
  lacking (drill name seed moments) o ends bytes there faultless b is number asks none = absurd (let w : ⊥ = cc in w)
  lacking (migrate name) o ends bytes there faultless b is number asks none = absurd (let w : ⊥ = cc in w)
  lacking (replay name record' limit) o ends bytes there faultless b is number asks none = absurd (let w : ⊥ = cc in w)
  lacking (advise name record' file) o ends bytes there faultless b is number asks none = absurd (let w : ⊥ = cc in w)
  lacking (why name record') o ends bytes there faultless b is number asks none = absurd (let w : ⊥ = cc in w)
  lacking (report name record') o ends bytes there faultless b is number asks none = absurd (let w : ⊥ = cc in w)
  lacking (words name record') o ends bytes there faultless b is number asks none = absurd (let w : ⊥ = cc in w)

  refused-limits : (c : Command) (o : Outcome) → Ends f out (Some c) o
      → (bytes : Text) → file_named told (book_asked c) ≡ Some bytes → book_fault bytes ≡ None → (b : Book) → book bytes ≡ Some b
      → (file : Text) → limits_asked c ≡ Some file → (text : Text) → file_named told file ≡ Some text
      → (g : LimitsFault) → limits_fault b text ≡ Some g → IsButForMemory statuses.LimitsRefused (status_of o)
  refused-limits (advise name record' asked) o ends bytes there faultless b is file asks text behind g faulty =
      let same : asked ≡ file = some-text asked file asks in
      limits-refused-so name bytes there faultless record' asked (λ ls. showing out (advised ls) no_limit) b is text (subst (λ n. file_named told n ≡ Some text) (sym same) behind) g faulty o ends
  refused-limits (check name) o ends bytes there faultless b is file asks text behind g faulty = absurd (let w : ⊥ = cc in w)
  refused-limits (drill name seed moments) o ends bytes there faultless b is file asks text behind g faulty = absurd (let w : ⊥ = cc in w)
  refused-limits (migrate name) o ends bytes there faultless b is file asks text behind g faulty = absurd (let w : ⊥ = cc in w)
  refused-limits (replay name record' limit) o ends bytes there faultless b is file asks text behind g faulty = absurd (let w : ⊥ = cc in w)
  refused-limits (callouts name record' number) o ends bytes there faultless b is file asks text behind g faulty = absurd (let w : ⊥ = cc in w)
  refused-limits (why name record') o ends bytes there faultless b is file asks text behind g faulty = absurd (let w : ⊥ = cc in w)
  refused-limits (report name record') o ends bytes there faultless b is file asks text behind g faulty = absurd (let w : ⊥ = cc in w)
  refused-limits (words name record') o ends bytes there faultless b is file asks text behind g faulty = absurd (let w : ⊥ = cc in w)

  module _ (r : Text) (l : ℕ) (text : Text) (behind : file_named told r ≡ Some text) where
    refused-record : (g : RecordFault) → fault text l ≡ Some g → (c : Command) (o : Outcome) → Ends f out (Some c) o
        → (bytes : Text) → file_named told (book_asked c) ≡ Some bytes → book_fault bytes ≡ None → Serves told c bytes
        → record_asked c ≡ Some (r, l) → IsButForMemory statuses.RecordRefused (status_of o)
    refused-record g faulty (check name) o ends bytes there faultless serves asks = absurd (let w : ⊥ = cc in w)
    refused-record g faulty (drill name seed moments) o ends bytes there faultless serves asks = absurd (let w : ⊥ = cc in w)
    refused-record g faulty (migrate name) o ends bytes there faultless serves asks = absurd (let w : ⊥ = cc in w)
    refused-record g faulty (replay name record' limit) o ends bytes there faultless serves asks =
        asked-refused name bytes there faultless (OpenedBoth f) record' limit (showing out blocks_of limit)
        (λ b text left h. h.faultless) (λ g b text left h. h.fault_is) r l asks text behind g faulty o ends
    refused-record g faulty (why name record') o ends bytes there faultless serves asks =
        asked-refused name bytes there faultless (OpenedBoth f) record' no_limit (explaining out)
        (λ b text left h. h.faultless) (λ g b text left h. h.fault_is) r l asks text behind g faulty o ends
    refused-record g faulty (callouts name record' number) o ends bytes there faultless serves asks =
        let e = showing out (called_out number) no_limit in
        asked-refused name bytes there faultless (OpenedBoth f) record' no_limit (numbered number e)
        (λ b text left h. h.1.faultless) (λ g b text left h. h.1.fault_is) r l asks text behind g faulty o
        (number-found name bytes there faultless record' number e (serves.number number refl) o ends)
    refused-record g faulty (advise name record' file) o ends bytes there faultless serves asks =
        let e = λ (ls : List Advisory). showing out (advised ls) no_limit in
        limits-found name bytes there faultless record' file e (serves.limits file refl) statuses.RecordRefused o
        (asked-refused name bytes there faultless (OpenedThree f) record' no_limit (under f.files file e)
        (λ b text left h. (limits-in file b (λ ls. (e ls).whole b text left) h).1.faultless)
        (λ g b text left h. (limits-in file b (λ ls. (e ls).refused g b text left) h).1.fault_is) r l asks text behind g faulty o) ends
    refused-record g faulty (report name record') o ends bytes there faultless serves asks =
        asked-refused name bytes there faultless (OpenedBoth f) record' no_limit (showing out report_of no_limit)
        (λ b text left h. h.faultless) (λ g b text left h. h.fault_is) r l asks text behind g faulty o ends
    refused-record g faulty (words name record') o ends bytes there faultless serves asks =
        asked-refused name bytes there faultless (OpenedBoth f) record' no_limit (showing out words_of no_limit)
        (λ b text left h. h.faultless) (λ g b text left h. h.fault_is) r l asks text behind g faulty o ends

    replayed : fault text l ≡ None → (c : Command) (o : Outcome) → Ends f out (Some c) o
        → (bytes : Text) → file_named told (book_asked c) ≡ Some bytes → book_fault bytes ≡ None → Serves told c bytes
        → record_asked c ≡ Some (r, l) → IsButForMemory statuses.Done (status_of o)
    replayed sound (check name) o ends bytes there faultless serves asks = absurd (let w : ⊥ = cc in w)
    replayed sound (drill name seed moments) o ends bytes there faultless serves asks = absurd (let w : ⊥ = cc in w)
    replayed sound (migrate name) o ends bytes there faultless serves asks = absurd (let w : ⊥ = cc in w)
    replayed sound (replay name record' limit) o ends bytes there faultless serves asks =
        asked-does name bytes there faultless (OpenedBoth f) record' limit (showing out blocks_of limit)
        (λ b text left h. h.faultless) (λ g b text left h. h.fault_is) r l asks text behind sound o ends
    replayed sound (why name record') o ends bytes there faultless serves asks =
        asked-does name bytes there faultless (OpenedBoth f) record' no_limit (explaining out)
        (λ b text left h. h.faultless) (λ g b text left h. h.fault_is) r l asks text behind sound o ends
    replayed sound (callouts name record' number) o ends bytes there faultless serves asks =
        let e = showing out (called_out number) no_limit in
        asked-does name bytes there faultless (OpenedBoth f) record' no_limit (numbered number e)
        (λ b text left h. h.1.faultless) (λ g b text left h. h.1.fault_is) r l asks text behind sound o
        (number-found name bytes there faultless record' number e (serves.number number refl) o ends)
    replayed sound (advise name record' file) o ends bytes there faultless serves asks =
        let e = λ (ls : List Advisory). showing out (advised ls) no_limit in
        limits-found name bytes there faultless record' file e (serves.limits file refl) statuses.Done o
        (asked-does name bytes there faultless (OpenedThree f) record' no_limit (under f.files file e)
        (λ b text left h. (limits-in file b (λ ls. (e ls).whole b text left) h).1.faultless)
        (λ g b text left h. (limits-in file b (λ ls. (e ls).refused g b text left) h).1.fault_is) r l asks text behind sound o) ends
    replayed sound (report name record') o ends bytes there faultless serves asks =
        asked-does name bytes there faultless (OpenedBoth f) record' no_limit (showing out report_of no_limit)
        (λ b text left h. h.faultless) (λ g b text left h. h.fault_is) r l asks text behind sound o ends
    replayed sound (words name record') o ends bytes there faultless serves asks =
        asked-does name bytes there faultless (OpenedBoth f) record' no_limit (showing out words_of no_limit)
        (λ b text left h. h.faultless) (λ g b text left h. h.fault_is) r l asks text behind sound o ends

  pub decided : (line : List Text) (o : Outcome) → Ends f out (command_of line) o → Decides line told (status_of o)
  decided line o ends =
      let of : (c : Command) → command_of line ≡ Some c → Ends f out (Some c) o = λ c is. subst (λ c. Ends f out c o) is ends in
      record {
        refused = λ c asks. refused c o (of c asks);
        told = λ c asks. tells c o (of c asks);
        unnumbered = λ c asks. lacking c o (of c asks);
        limits_refused = λ c asks. refused-limits c o (of c asks);
        record_refused = λ c asks bytes there faultless serves r l reads text behind g faulty.
            refused-record r l text behind g faulty c o (of c asks) bytes there faultless serves reads;
        replayed = λ c asks bytes there faultless serves r l reads text behind sound.
            replayed r l text behind sound c o (of c asks) bytes there faultless serves reads;
      }
