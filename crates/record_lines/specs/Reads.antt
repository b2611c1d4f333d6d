-- What a reader that stands somewhere in a record has told of it.
use Rattle.std.specs.Prelude.{◌≡◌, ℕ, ◌+◌, ◌-◌, ◌<◌, ◌≤◌, Bool, true, false, nat_lt, List, [], ◌∷◌, ◌++◌, length, take, All, Option, None, Some, Result, Ok, Err, IfOk, MatchBool, if◌then◌else◌}
use Rattle.std.specs.Io.KnownBytes.{Consumes, IsAtEnd}
use Rattle.ecam_spec.specs.declared.kinds.Event.{Event}
use Rattle.ecam_spec.specs.declared.kinds.FaultKind.{FaultKind}
use Rattle.ecam_spec.specs.declared.kinds.FaultKind.TheVariants.{Cut, NoEnd}
use Rattle.ecam_spec.specs.declared.kinds.RecordFault.{RecordFault}
use Rattle.ecam_spec.specs.Past.{once, previous}
use Rattle.ecam_spec.specs.RecordLine.{is_end_event}
use Rattle.ecam_spec.specs.Keys.{IsEvent}
use Rattle.ecam_spec.specs.Record.{line_before, line_number, ends_record, wrong_place, sound_length, fault, events}
use Rattle.ecam_io.specs.Outside.{ReadCall, Appended}
use Rattle.record_lines.specs.declared.outcome.Stage.{Stage}
use Rattle.record_lines.specs.declared.outcome.Stage.TheVariants.{Lines, Closing, Ended, Faulty}
use Rattle.record_lines.specs.declared.outcome.LineError.{LineError}
use Rattle.record_lines.specs.declared.outcome.LineError.TheVariants.{Failed, Record}
use Rattle.record_lines.specs.Reader.{ReaderState, room, settled, kept_answer, cost, reads_next}

-- ---- what stands at the end of a text

-- the bytes of the line that isn't ended
abbrev pub last_line : List ℕ → List ℕ
last_line text = line_before text (length text)

-- its number
abbrev pub last_number : List ℕ → ℕ
last_number text = line_number text (length text)

-- a line before ended the record
abbrev pub is_over : List ℕ → Bool
is_over text = previous (once (ends_record text)) (length text)

-- ---- what is known of a record from the bytes that came

-- these bytes are a whole record without a fault, which has these events
pub record IsWhole (limit : ℕ) (bytes : List ℕ) (answered : List Event) : Type 0 where
  pub fault : fault bytes limit ≡ None
  pub events : events bytes limit ≡ answered

-- this text has this fault, and these events before it
pub record IsFaulty (limit : ℕ) (text : List ℕ) (answered : List Event) (f : RecordFault) : Type 0 where
  pub fault : fault text limit ≡ Some f
  pub events : events text limit ≡ answered

-- only the end of the input shows such a fault
abbrev pub is_shown_at_end : FaultKind → Bool
is_shown_at_end Cut = true
is_shown_at_end NoEnd = true
is_shown_at_end _ = false

-- no more bytes were taken behind the first that is wrong than one call of `read` asks for
abbrev pub IsNear : ℕ → List ℕ → Type 0
IsNear limit bytes = length bytes ≤ sound_length bytes limit + 4096

-- each text that begins with these bytes has this fault, or, where only the end of the input shows it, these bytes have
abbrev pub HasFault : ℕ → List ℕ → List Event → RecordFault → Type 0
HasFault limit bytes answered f =
    (more : List ℕ) → (is_shown_at_end f.kind ≡ true → more ≡ []) → IsFaulty limit (bytes ++ more) answered f

-- the events of each text that begins with these bytes begin with these events
abbrev pub BeginEvents : ℕ → List ℕ → List Event → Type 0
BeginEvents limit bytes answered =
    (more : List ℕ) → (later : List Event) × (events (bytes ++ more) limit ≡ answered ++ later)

-- ---- where a reader stands

-- The reader went through the first of the bytes that were taken, at which nothing is wrong: it answered their events,
-- and has what is left of the bytes within the limit.
pub record WentThrough (limit : ℕ) (gone taken : List ℕ) (answered : List Event) (closing : Bool) (r : ReaderState) : Type 0 where
  pub sound : wrong_place gone limit ≡ None
  pub closing_is : is_over gone ≡ closing
  pub answered_is : events gone limit ≡ answered
  pub line_is : r.line ≡ last_line gone
  pub number_is : r.number ≡ last_number gone
  pub pending_is : take limit taken ≡ gone ++ r.pending
  pub allowance_is : r.allowance ≡ limit - length taken
  pub over_is : r.over ≡ nat_lt limit (length taken)
  pub near : length taken ≤ length gone + 4096

abbrev pub ReadsAt : Stage → ℕ → List ℕ → List Event → ReaderState → Type 0
ReadsAt Lines limit taken answered r = (gone : List ℕ) × WentThrough limit gone taken answered false r
ReadsAt Closing limit taken answered r = (gone : List ℕ) × WentThrough limit gone taken answered true r
ReadsAt Ended limit taken answered r = IsWhole limit taken answered
ReadsAt (Faulty f) limit taken answered r = HasFault limit taken answered f × IsNear limit taken

-- a reader under this limit took these bytes from its source so far, and answered these events
abbrev pub Reads : ℕ → List ℕ → List Event → ReaderState → Type 0
Reads limit taken answered r = ReadsAt r.stage limit taken answered r

-- ---- what a call of a reader tells

-- after an event that isn't the end
pub record TellsEvent (limit : ℕ) (bytes : List ℕ) (answered : List Event) (r : ReaderState) : Type 0 where
  pub reads : Reads limit bytes answered r
  pub begin : BeginEvents limit bytes answered

-- after the record's end
pub record TellsEnd (limit : ℕ) (bytes : List ℕ) (answered : List Event) (r : ReaderState) : Type 0 where
  pub reads : Reads limit bytes answered r
  pub whole : IsWhole limit bytes answered

-- after a fault of the record
pub record TellsFault (limit : ℕ) (bytes : List ℕ) (answered : List Event) (f : RecordFault) (r : ReaderState) : Type 0 where
  pub reads : Reads limit bytes answered r
  pub faulty : HasFault limit bytes answered f
  pub near : IsNear limit bytes

-- after a failure of the source: the events of all bytes that came were answered
pub record TellsFailure (limit : ℕ) (bytes : List ℕ) (answered : List Event) (r : ReaderState) : Type 0 where
  pub reads : Reads limit bytes answered r
  pub all : events bytes limit ≡ answered

-- what an answer tells of the bytes that were taken, where these events were answered before
abbrev pub TellsAfter : ℕ → List ℕ → List Event → Result Event LineError → ReaderState → Type 0
TellsAfter limit bytes answered (Ok e) r =
    MatchBool (is_end_event e) (TellsEnd limit bytes answered r) (TellsEvent limit bytes (answered ++ e ∷ []) r)
TellsAfter limit bytes answered (Err Failed) r = TellsFailure limit bytes answered r
TellsAfter limit bytes answered (Err (Record f)) r = TellsFault limit bytes answered f r

-- a call that took these further bytes tells this, whatever was taken and answered before
abbrev pub Tells : ReaderState → ReaderState → List ℕ → Result Event LineError → Type 0
Tells old new more answer =
    (limit : ℕ) (taken : List ℕ) (answered : List Event) → Reads limit taken answered old → TellsAfter limit (taken ++ more) answered answer new

-- a call that took these further bytes answered nothing yet
abbrev pub Goes : ReaderState → ReaderState → List ℕ → Type 0
Goes old new more =
    (limit : ℕ) (taken : List ℕ) (answered : List Event) → Reads limit taken answered old → Reads limit (taken ++ more) answered new

-- some further bytes were taken from the source, which tell this
pub record Takes (old new : Option (List ℕ)) (P : List ℕ → Type 0) : Type 0 where
  pub more : List ℕ
  pub moved : Consumes old new more
  pub tells : P more

-- ---- which calls of `read` a call of a reader makes

-- such a call that asks for a piece, and what it gave
abbrev pub piece_call : Option ℕ → ReadCall
piece_call given = record { asked = 4096; given = given }

-- one that asked for a piece and gave some bytes
abbrev pub GivesBytes : ReadCall → Type 0
GivesBytes c = (n : ℕ) × (0 < n) × (c ≡ piece_call (Some n))

-- what an answer tells of the last call: `Failed` that it failed, and what only the end of the input shows that it gave nothing
abbrev pub last_call : Result Event LineError → List ReadCall
last_call (Ok e) = if is_end_event e then piece_call (Some 0) ∷ [] else []
last_call (Err Failed) = piece_call None ∷ []
last_call (Err (Record f)) = if is_shown_at_end f.kind then piece_call (Some 0) ∷ [] else []

-- a source was called so, and P holds of the calls
pub record Makes {S : Type 0} (reads : S → List ReadCall → Type 0) (old new : S) (P : List ReadCall → Type 0) : Type 0 where
  pub calls : List ReadCall
  pub made : Appended reads old new calls
  pub so : P calls

-- for this answer: each call gave some bytes but the last that it tells of, and there is one exactly where one is needed
pub record Asks (needs : Bool) (answer : Result Event LineError) (calls : List ReadCall) : Type 0 where
  pub pieces : List ReadCall
  pub full : All GivesBytes pieces
  pub calls_are : calls ≡ pieces ++ last_call answer
  pub some : needs ≡ true → 0 < length calls

-- a source that told what was left has nothing left
abbrev pub IsSpent : Option (List ℕ) → Option (List ℕ) → Type 0
IsSpent None new = Unit {0}
IsSpent (Some xs) new = IsAtEnd new

-- the record's end, and a fault that only the end of the input shows, are answered where nothing is left
abbrev pub MeetsEnd : Option (List ℕ) → Option (List ℕ) → Result Event LineError → Type 0
MeetsEnd old new (Ok e) = is_end_event e ≡ true → IsSpent old new
MeetsEnd old new (Err Failed) = Unit {0}
MeetsEnd old new (Err (Record f)) = is_shown_at_end f.kind ≡ true → IsSpent old new

-- ---- the steps inside a reader

-- an answer that needed no reading
pub record Gives (old new : ReaderState) (answer : Result Event LineError) : Type 0 where
  pub tells : Tells old new [] answer
  pub settled_is : settled new ≡ kept_answer answer
  pub room_is : room new + cost answer ≤ room old
  pub event_is : IfOk answer IsEvent

-- it shows no end of the source, and no failure
abbrev pub IsFromBytes : Result Event LineError → Type 0
IsFromBytes (Ok e) = is_end_event e ≡ false
IsFromBytes (Err Failed) = ⊥
IsFromBytes (Err (Record f)) = is_shown_at_end f.kind ≡ false

-- no answer yet
pub record Advances (old new : ReaderState) : Type 0 where
  pub goes : Goes old new []
  pub unsettled : settled new ≡ None
  pub room_is : room new ≤ room old
  pub allowance_is : new.allowance ≡ old.allowance
  pub over_is : new.over ≡ old.over
  pub needs_is : reads_next new ≡ reads_next old
