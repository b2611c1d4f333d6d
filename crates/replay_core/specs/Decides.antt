-- Which ending must come, where a shelf tells its files and nothing failed.
use Rattle.std.specs.Prelude.{◌≡◌, ◌⊎◌, ℕ, List, Option, Some, None, IsSomeAnd}
use Rattle.ecam_io.specs.Outside.{file_named}
use Rattle.ecam_spec.specs.declared.kinds.BookFault.{BookFault}
use Rattle.ecam_spec.specs.declared.kinds.RecordFault.{RecordFault}
use Rattle.ecam_spec.specs.Book.{Text, Book}
use Rattle.ecam_spec.specs.Command.{Command, command_of, check, replay, why, drill, migrate, callouts, advise, report, words, no_limit}
use Rattle.ecam_spec.specs.Record.{fault}
use Rattle.book_spec.specs.BookBytes.{book_fault, book}
use Rattle.limits_spec.specs.LimitsBytes.{limits_fault}
use Rattle.limits_spec.specs.declared.form.LimitsFault.{LimitsFault}
use Rattle.view_spec.specs.Places.{number_place}
use Rattle.replay_core.specs.ReadEndings.{HasNumber}
use Rattle.replay_core.specs.declared.outcome.Status.{Status}
use Rattle.replay_core.specs.declared.outcome.Status.TheVariants as statuses

-- the name of the book's file that a command reads
abbrev pub book_asked : Command → Text
book_asked (check book) = book
book_asked (replay book record' limit) = book
book_asked (why book record') = book
book_asked (drill book seed moments) = book
book_asked (migrate book) = book
book_asked (callouts book record' name) = book
book_asked (advise book record' limits) = book
book_asked (report book record') = book
book_asked (words book record') = book

-- the name of the record's file that it reads, and the limit on the record's bytes, if it reads any
abbrev pub record_asked : Command → Option (Text × ℕ)
record_asked (check book) = None
record_asked (replay book record' limit) = Some (record', limit)
record_asked (why book record') = Some (record', no_limit)
record_asked (drill book seed moments) = None
record_asked (migrate book) = None
record_asked (callouts book record' name) = Some (record', no_limit)
record_asked (advise book record' limits) = Some (record', no_limit)
record_asked (report book record') = Some (record', no_limit)
record_asked (words book record') = Some (record', no_limit)

-- the name of the number parameter that it goes by, if it goes by any
abbrev pub number_asked : Command → Option Text
number_asked (callouts book record' name) = Some name
number_asked c = None

-- the name of the limits file that it goes by, if it goes by any
abbrev pub limits_asked : Command → Option Text
limits_asked (advise book record' limits) = Some limits
limits_asked c = None

-- the book of these bytes has what the command goes by, and the limits file is there and has no fault by it
pub record Serves (files : List (Text × Text)) (c : Command) (bytes : Text) : Type 0 where
  pub number : (name : Text) → number_asked c ≡ Some name
      → (b : Book) → book bytes ≡ Some b → HasNumber name b
  pub limits : (name : Text) → limits_asked c ≡ Some name
      → (b : Book) → book bytes ≡ Some b
      → IsSomeAnd (file_named files name) (λ text. limits_fault b text ≡ None)

-- this status, but for want of memory
abbrev pub IsButForMemory : Status → Status → Type 0
IsButForMemory status result = (result ≡ status) ⊎ (result ≡ statuses.NoMemory)

-- the words have none of the forms exactly where the program ends so
pub record DecidesUsage (words : List Text) (result : Status) : Type 0 where
  pub usage : command_of words ≡ None → result ≡ statuses.Usage
  pub form : result ≡ statuses.Usage → command_of words ≡ None

-- where a shelf tells its files, and neither it nor the sink counted a fault, the words and the
-- files say how the program ends: by the book's fault, by a number that it hasn't, by the fault of
-- the limits, by the record's, or with everything done
pub record Decides (words : List Text) (files : List (Text × Text)) (result : Status) : Type 0 where
  pub refused : (c : Command) → command_of words ≡ Some c
      → (bytes : Text) → file_named files (book_asked c) ≡ Some bytes
      → (f : BookFault) → book_fault bytes ≡ Some f → IsButForMemory statuses.BookRefused result
  pub told : (c : Command) → command_of words ≡ Some c → record_asked c ≡ None
      → (bytes : Text) → file_named files (book_asked c) ≡ Some bytes
      → book_fault bytes ≡ None → IsButForMemory statuses.Done result
  pub unnumbered : (c : Command) → command_of words ≡ Some c
      → (bytes : Text) → file_named files (book_asked c) ≡ Some bytes
      → book_fault bytes ≡ None → (b : Book) → book bytes ≡ Some b
      → (name : Text) → number_asked c ≡ Some name → number_place b name ≡ None
      → IsButForMemory statuses.NoSuch result
  pub limits_refused : (c : Command) → command_of words ≡ Some c
      → (bytes : Text) → file_named files (book_asked c) ≡ Some bytes
      → book_fault bytes ≡ None → (b : Book) → book bytes ≡ Some b
      → (name : Text) → limits_asked c ≡ Some name
      → (text : Text) → file_named files name ≡ Some text
      → (f : LimitsFault) → limits_fault b text ≡ Some f
      → IsButForMemory statuses.LimitsRefused result
  pub record_refused : (c : Command) → command_of words ≡ Some c
      → (bytes : Text) → file_named files (book_asked c) ≡ Some bytes
      → book_fault bytes ≡ None → Serves files c bytes
      → (name : Text) (limit : ℕ) → record_asked c ≡ Some (name, limit)
      → (text : Text) → file_named files name ≡ Some text
      → (f : RecordFault) → fault text limit ≡ Some f → IsButForMemory statuses.RecordRefused result
  pub replayed : (c : Command) → command_of words ≡ Some c
      → (bytes : Text) → file_named files (book_asked c) ≡ Some bytes
      → book_fault bytes ≡ None → Serves files c bytes
      → (name : Text) (limit : ℕ) → record_asked c ≡ Some (name, limit)
      → (text : Text) → file_named files name ≡ Some text
      → fault text limit ≡ None → IsButForMemory statuses.Done result
