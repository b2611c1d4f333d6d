-- What callers see of a reader.
use Rattle.std.specs.Prelude.{if◌then◌else◌, ◌==◌, ◌&&◌, not, ℕ, ◌+◌, ◌-◌, ◌*◌, Bool, false, nat_le, nat_lt, List, [], ◌++◌, length, take, position, Option, None, Some, Result, Ok, Err}
use Rattle.ecam_spec.specs.declared.kinds.Event.{Event}
use Rattle.ecam_spec.specs.declared.kinds.Event.TheVariants.{End}
use Rattle.ecam_spec.specs.declared.kinds.FaultKind.{FaultKind}
use Rattle.ecam_spec.specs.declared.kinds.RecordFault.{RecordFault}
use Rattle.ecam_spec.specs.RecordLine.{is_end, is_end_event}
use Rattle.record_lines.specs.declared.outcome.Stage.{Stage}
use Rattle.record_lines.specs.declared.outcome.Stage.TheVariants.{Lines, Closing, Ended, Faulty}
use Rattle.record_lines.specs.declared.outcome.LineError.{LineError}
use Rattle.record_lines.specs.declared.outcome.LineError.TheVariants.{Failed, Record}

-- The bytes of the last piece within the limit that it hasn't gone through; the bytes of their line before them, and
-- its number, from 1; how many bytes the limit still allows, and whether bytes beyond it came; and where it is.
pub record ReaderState : Type 0 where
  pub pending : List ℕ
  pub line : List ℕ
  pub number : ℕ
  pub allowance : ℕ
  pub over : Bool
  pub stage : Stage

-- how many bytes of the limit are left for the line that has begun and those after it
abbrev pub room : ReaderState → ℕ
room r = length r.line + length r.pending + r.allowance

-- what a reader answers without reading, once it met the record's end or its fault
abbrev pub settled_at : Stage → Option (Result Event LineError)
settled_at Lines = None
settled_at Closing = None
settled_at Ended = Some (Ok End)
settled_at (Faulty f) = Some (Err (Record f))

abbrev pub settled : ReaderState → Option (Result Event LineError)
settled r = settled_at r.stage

-- the end of the record and its fault are answered again, and nothing else is
abbrev pub kept_answer : Result Event LineError → Option (Result Event LineError)
kept_answer (Ok e) = if is_end_event e then Some (Ok e) else None
kept_answer (Err Failed) = None
kept_answer (Err (Record f)) = Some (Err (Record f))

-- ---- whether the next call has to read

-- in the lines of the record: what is left has no end of a line and its line is no longer than a line may be, or all that
-- is left is the line that ends the record
abbrev pub lacks_line : Option ℕ → ReaderState → Bool
lacks_line None r = nat_le (length r.pending) (32 - length r.line)
lacks_line (Some at) r = length r.pending == at + 1 && is_end (r.line ++ take at r.pending)

abbrev pub lacks_bytes : Stage → ReaderState → Bool
lacks_bytes Lines r = lacks_line (position (λ b. b == 10) r.pending) r
lacks_bytes Closing r = length r.pending == 0
lacks_bytes Ended r = false
lacks_bytes (Faulty f) r = false

-- nothing that it has decides its next answer
abbrev pub reads_next : ReaderState → Bool
reads_next r = not r.over && lacks_bytes r.stage r

-- how many bytes an answer costs at least
abbrev pub cost : Result Event LineError → ℕ
cost (Ok e) = if is_end_event e then 0 else 2
cost (Err e) = 0

-- what an error says of a fault of this kind in a reader's line
abbrev pub fault_in : FaultKind → ReaderState → RecordFault
fault_in kind r = record { kind = kind; line = r.number }

-- ---- what the steps inside a reader leave

-- the first bytes that are left go to the line
abbrev pub carried : ReaderState → ReaderState
carried r = record r { line = r.line ++ r.pending; pending = [] }

-- a piece was read
abbrev pub filled : List ℕ → ReaderState → ReaderState
filled bytes r = record r {
  pending = take r.allowance bytes;
  allowance = r.allowance - length bytes;
  over = nat_lt r.allowance (length bytes);
}

-- a number that falls with each piece that is read
abbrev pub wait : ReaderState → ℕ
wait r = 2 * (length r.pending + r.allowance) + (if length r.pending == 0 && not r.over then 1 else 0)
