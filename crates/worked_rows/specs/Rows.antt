-- How a worked row is written: records and outputs as text, with `/` where a line ends.
use Rattle.std.specs.Prelude.{ℕ, ◌==◌, ◌++◌, map, Option, Some, if◌then◌else◌}
use Rattle.ecam_spec.specs.declared.kinds.FaultKind.{FaultKind}
use Rattle.ecam_spec.specs.declared.kinds.RecordFault.{RecordFault}
use Rattle.ecam_spec.specs.Book.{Text, Book}
use Rattle.ecam_spec.specs.Command.{no_limit}
use Rattle.ecam_spec.specs.Record.{fault, events}
use Rattle.ecam_spec.specs.Replay.{reply, standing_lines}
use Rattle.view_spec.specs.OutputWords.{words_text, words_end}

-- a text whose lines end with `/`
abbrev pub lines : Text → Text
lines t = map (λ c. if c == 47 then 10 else c) t

-- what `replay` writes of a record
abbrev pub written : Book → Text → Text
written book record_text = reply book (lines record_text) no_limit

-- what `replay` writes of a record under a limit on its bytes
abbrev pub written_within : ℕ → Book → Text → Text
written_within limit book record_text = reply book (lines record_text) limit

-- what `why` writes of a record
abbrev pub standings : Book → Text → Text
standings book record_text = standing_lines book (events (lines record_text) no_limit)

-- what `words` writes of a record
abbrev pub words_written : Book → Text → Text
words_written book record_text = words_text book (events (lines record_text) no_limit) ++ words_end

-- what is wrong with a record
abbrev pub fault_of : Text → Option RecordFault
fault_of record_text = fault (lines record_text) no_limit

abbrev pub at_line : FaultKind → ℕ → Option RecordFault
at_line kind n = Some (record { kind = kind; line = n })
