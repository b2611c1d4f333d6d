-- What a command that ends so tells on standard error, and the number with which the program ends.
use Rattle.std.specs.Prelude.{◌≡◌, ◌⊎◌, ℕ, [], ◌++◌, codes, decimal, Result, Ok, Err}
use Rattle.ecam_spec.specs.Book.{Text}
use Rattle.ecam_spec.specs.Command.{usage}
use Rattle.ecam_spec.specs.Complaint.{code_text, book_complaint, record_complaint}
use Rattle.ecam_spec.specs.Output.{line}
use Rattle.replay_core.specs.Calls.{SinkCall, Writes, WritesPart, HasFailedToWrite}
use Rattle.limits_spec.specs.declared.form.LimitsFault.{LimitsFault}
use Rattle.replay_core.specs.declared.load.Unready.{Unready}
use Rattle.replay_core.specs.declared.load.Unready.TheVariants.{Refused, Unread, NoMemory}
use Rattle.replay_core.specs.declared.load_limits.UnreadyLimits.{UnreadyLimits}
use Rattle.replay_core.specs.declared.load_limits.UnreadyLimits.TheVariants as unready
use Rattle.replay_core.specs.declared.advise.Unprepared.TheVariants as unprepared
use Rattle.replay_core.specs.declared.error.BookError.{BookError}
use Rattle.replay_core.specs.declared.error.BookError.TheVariants as of_book
use Rattle.replay_core.specs.declared.error.RecordError.{RecordError}
use Rattle.replay_core.specs.declared.error.RecordError.TheVariants as of_record
use Rattle.replay_core.specs.declared.error.NumberError.{NumberError}
use Rattle.replay_core.specs.declared.error.NumberError.TheVariants as of_number
use Rattle.replay_core.specs.declared.error.LimitsError.{LimitsError}
use Rattle.replay_core.specs.declared.error.LimitsError.TheVariants as of_limits
use Rattle.record_views.specs.declared.show.RunError.{RunError}
use Rattle.record_views.specs.declared.show.RunError.TheVariants as runs
use Rattle.replay_core.specs.declared.outcome.Status.{Status}
use Rattle.replay_core.specs.declared.outcome.Status.TheVariants as statuses
use Rattle.replay_core.specs.declared.outcome.Outcome.{Outcome}
use Rattle.replay_core.specs.declared.outcome.Outcome.TheVariants as outcomes

abbrev pub limits_complaint : LimitsFault → Text
limits_complaint f = codes "limits: A" ++ code_text f.code ++ codes " item " ++ decimal f.item

abbrev pub complaint : Outcome → Text
complaint outcomes.Done = []
complaint outcomes.Usage = line usage
complaint (outcomes.BookRefused f) = line (book_complaint f)
complaint (outcomes.RecordRefused f) = line (record_complaint f)
complaint outcomes.ReadFault = line (codes "read fault")
complaint outcomes.WriteFault = line (codes "write fault")
complaint outcomes.NoMemory = line (codes "no memory")
complaint outcomes.NoSuch = line (codes "no such number")
complaint (outcomes.LimitsRefused f) = line (limits_complaint f)

abbrev pub status_of : Outcome → Status
status_of outcomes.Done = statuses.Done
status_of outcomes.Usage = statuses.Usage
status_of (outcomes.BookRefused f) = statuses.BookRefused
status_of (outcomes.RecordRefused f) = statuses.RecordRefused
status_of outcomes.ReadFault = statuses.ReadFault
status_of outcomes.WriteFault = statuses.WriteFault
status_of outcomes.NoMemory = statuses.NoMemory
status_of outcomes.NoSuch = statuses.NoSuch
status_of (outcomes.LimitsRefused f) = statuses.LimitsRefused

abbrev pub status_code : Status → ℕ
status_code statuses.Done = 0
status_code statuses.Usage = 1
status_code statuses.BookRefused = 2
status_code statuses.RecordRefused = 3
status_code statuses.ReadFault = 4
status_code statuses.WriteFault = 5
status_code statuses.NoMemory = 6
status_code statuses.NoSuch = 7
status_code statuses.LimitsRefused = 8

-- how the program ends where no book stands ready
abbrev pub outcome_of : Unready → Outcome
outcome_of (Refused f) = outcomes.BookRefused f
outcome_of Unread = outcomes.ReadFault
outcome_of NoMemory = outcomes.NoMemory

-- or no limits do
abbrev pub limits_outcome_of : UnreadyLimits → Outcome
limits_outcome_of (unready.Refused f) = outcomes.LimitsRefused f
limits_outcome_of unready.Unread = outcomes.ReadFault
limits_outcome_of unready.NoMemory = outcomes.NoMemory

-- how it ends where a replay didn't reach the record's end
abbrev pub refusal_of : RunError → Outcome
refusal_of runs.Read = outcomes.ReadFault
refusal_of runs.Write = outcomes.WriteFault
refusal_of (runs.Record f) = outcomes.RecordRefused f

-- how a command ends that reads a book alone
abbrev pub book_ending : Result (Unit {0}) BookError → Outcome
book_ending (Ok done) = outcomes.Done
book_ending (Err (of_book.Unready e)) = outcome_of e
book_ending (Err of_book.Write) = outcomes.WriteFault

-- one that reads a record by a book
abbrev pub record_ending : Result (Unit {0}) RecordError → Outcome
record_ending (Ok done) = outcomes.Done
record_ending (Err (of_record.Unready e)) = outcome_of e
record_ending (Err (of_record.Run e)) = refusal_of e

-- one that goes by a number parameter besides
abbrev pub number_ending : Result (Unit {0}) NumberError → Outcome
number_ending (Ok done) = outcomes.Done
number_ending (Err (of_number.Unready e)) = outcome_of e
number_ending (Err of_number.NoSuch) = outcomes.NoSuch
number_ending (Err (of_number.Run e)) = refusal_of e

-- and one that goes by the limits of a file
abbrev pub limits_ending : Result (Unit {0}) LimitsError → Outcome
limits_ending (Ok done) = outcomes.Done
limits_ending (Err (of_limits.Unprepared (unprepared.Book e))) = outcome_of e
limits_ending (Err (of_limits.Unprepared (unprepared.Limits e))) = limits_outcome_of e
limits_ending (Err (of_limits.Run e)) = refusal_of e

-- the line was written and no fault was counted, or writing failed and a prefix of it was
abbrev pub Complains : {S : Type 0} → SinkCall S → Outcome → Type 0
Complains err outcome =
    (Writes err (complaint outcome) × (err.faults_now ≡ err.faults))
    ⊎ (HasFailedToWrite err × WritesPart err (complaint outcome))
