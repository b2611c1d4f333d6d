-- What a replay or another view of a record, and a step of it, has written when it ends so.
use Rattle.std.specs.Prelude.{◌≡◌, ◌⊎◌, ℕ, ◌+◌, ◌*◌, ◌^◌, ◌<◌, ◌≤◌, List, [], ◌∷◌, ◌++◌, length, All}
use Rattle.std.specs.Prelude.{Option, Some, None, Result, Ok, Err}
use Rattle.std.specs.Io.KnownBytes.{Consumes}
use Rattle.ecam_io.specs.Outside.{ReadCall, Appended, AppendedPrefix}
use Rattle.ecam_spec.specs.declared.kinds.Event.{Event}
use Rattle.ecam_spec.specs.declared.kinds.RecordFault.{RecordFault}
use Rattle.ecam_spec.specs.Book.{Text, Book}
use Rattle.ecam_spec.specs.History.{era}
use Rattle.ecam_spec.specs.Record.{fault, events}
use Rattle.ecam_spec.specs.Replay.{tick_count}
use Rattle.gathering.specs.Handed.{IsHanded}
use Rattle.fwc_pair.specs.PairState.{PairStands}
use Rattle.fwc_pair.specs.PairVisits.{history_visits, HaveVisited}
use Rattle.fwc_pair.specs.declared.pair.Pair.{Pair}
use Rattle.record_lines.specs.Reader.{ReaderState, room, settled}
use Rattle.record_lines.specs.Reads.{Reads, IsNear, piece_call, GivesBytes, last_call}
use Rattle.record_lines.specs.declared.outcome.LineError.TheVariants as line_errors
use Rattle.record_views.specs.Showing.{Showing, blocks_of, output_of}
use Rattle.record_views.specs.declared.show.RunError.{RunError}
use Rattle.record_views.specs.declared.show.RunError.TheVariants.{Read, Write, Record}

-- of a record these bytes were taken, those before what is left, and no more than a piece from
-- the first wrong byte on
pub record TookNear (limit : ℕ) (text : Text) (rest : Option (List ℕ)) : Type 0 where
  pub taken : Text
  pub behind : Text
  pub parts : text ≡ taken ++ behind
  pub rest_is : rest ≡ Some behind
  pub near : IsNear limit taken

-- what an ending tells of the last call of `read`
abbrev pub IsLast : Result ℕ RunError → List ReadCall → Type 0
IsLast (Ok ticks) last = last ≡ piece_call (Some 0) ∷ []
IsLast (Err Read) last = last ≡ piece_call None ∷ []
IsLast (Err Write) last = (last ≡ []) ⊎ (last ≡ piece_call (Some 0) ∷ [])
IsLast (Err (Record f)) last = last ≡ last_call (Err (line_errors.Record f))

-- a replay that ends so called `read` so: each call asked for a piece and gave some bytes, but
-- for the last that the ending tells of
pub record HasAsked (result : Result ℕ RunError) (calls : List ReadCall) : Type 0 where
  pub pieces : List ReadCall
  pub last : List ReadCall
  pub full : All GivesBytes pieces
  pub calls_are : calls ≡ pieces ++ last
  pub last_is : IsLast result last

-- a pair and what shows the history have taken it, and these are its Ticks. A record has fewer
pub record HasSeen (b : Book) (viewed : List Event → Type 0)
    (pair : Pair) (ticks : ℕ) (h : List Event) : Type 0 where
  pub stands : PairStands b h pair
  pub seen : viewed h
  pub ticks_are : ticks ≡ tick_count h
  pub few : tick_count h < 2 ^ 32

module _ (b : Book) (o : Showing) {S : Type 0} (agrees : S → List ℕ → Type 0) (old new : S) where
  -- the record was read to its end, its whole output is written, and the pair stands where it ends
  pub record HasRun (pair : Pair) (limit : ℕ) (text : Text) (rest : Option (List ℕ)) (ticks : ℕ)
      : Type 0 where
    pub faultless : fault text limit ≡ None
    pub ticks_are : ticks ≡ tick_count (events text limit)
    pub written : Appended agrees old new (output_of o text limit)
    pub spent : rest ≡ Some []
    pub stands : PairStands b (events text limit) pair

  -- the record has this fault, what is shown of it is written, and no more than a piece was taken from the
  -- first wrong byte on
  pub record HasMetFault (limit : ℕ) (text : Text) (rest : Option (List ℕ)) (f : RecordFault)
      : Type 0 where
    pub fault_is : fault text limit ≡ Some f
    pub written : Appended agrees old new (output_of o text limit)
    pub took : TookNear limit text rest

  -- A prefix of what is shown up to some line is written. The bytes taken are those before what is
  -- left, and no more than a piece was taken behind that line.
  pub record StopsAtLine (limit : ℕ) (text : Text) (rest : Option (List ℕ)) : Type 0 where
    pub front : Text
    pub later : Text
    pub behind : Text
    pub parts : text ≡ (front ++ later) ++ behind
    pub rest_is : rest ≡ Some behind
    pub near : length later ≤ 4096
    pub written : AppendedPrefix agrees old new (o.text (events front limit))

  -- the record has a fault, and no more than a piece was taken from the first wrong byte on
  pub record StopsAtFault (limit : ℕ) (text : Text) (rest : Option (List ℕ)) : Type 0 where
    pub met : RecordFault
    pub fault_is : fault text limit ≡ Some met
    pub took : TookNear limit text rest

  -- the record was read to its end
  abbrev pub StopsAtEnd : Option (List ℕ) → Type 0
  StopsAtEnd rest = rest ≡ Some []

  -- writing failed: a prefix of the output is written, and nothing was read after it
  pub record HasStopped (limit : ℕ) (text : Text) (rest : Option (List ℕ)) : Type 0 where
    pub written : AppendedPrefix agrees old new (output_of o text limit)
    pub stops : StopsAtLine limit text rest ⊎ (StopsAtFault limit text rest ⊎ StopsAtEnd rest)

  -- what is shown of the bytes that came is written
  pub record HasBroken (limit : ℕ) (left rest : Option (List ℕ)) : Type 0 where
    pub taken : List ℕ
    pub moved : Consumes left rest taken
    pub written : Appended agrees old new (o.text (events taken limit))

  -- how a record's showing ends, where its source tells what it has left
  abbrev pub Shows : Pair → ℕ → Option (List ℕ) → Option (List ℕ) → Result ℕ RunError → Type 0
  Shows pair limit left rest (Ok ticks) =
      (text : Text) → left ≡ Some text → HasRun pair limit text rest ticks
  Shows pair limit left rest (Err Read) = HasBroken limit left rest
  Shows pair limit left rest (Err Write) =
      (text : Text) → left ≡ Some text → HasStopped limit text rest
  Shows pair limit left rest (Err (Record f)) =
      (text : Text) → left ≡ Some text → HasMetFault limit text rest f

  -- an event was taken by the pair and by what shows the history, and what it adds was written or
  -- gathered behind what was before
  pub record HasFed (viewed : List Event → Type 0) (before after : Text) (h : List Event)
      (e : Event) (pair : Pair) : Type 0 where
    pub stands : PairStands b (h ++ e ∷ []) pair
    pub seen : viewed (h ++ e ∷ [])
    pub more : Text
    pub joined : o.text (h ++ e ∷ []) ≡ o.text h ++ more
    pub handed : IsHanded agrees old new (before ++ more) after

  -- or writing failed, and a prefix of that was written
  pub record HasFedPart (before : Text) (h : List Event) (e : Event) : Type 0 where
    pub more : Text
    pub joined : o.text (h ++ e ∷ []) ≡ o.text h ++ more
    pub part : AppendedPrefix agrees old new (before ++ more)

  -- where a showing is between two lines: these bytes came, these events were taken, what is shown
  -- of them is written or gathered, and from the pair at first on the computers visited what they cost
  pub record IsAt (viewed : List Event → Type 0) (gathered : Text) (limit : ℕ)
      (left rest : Option (List ℕ)) (reader : ReaderState) (first pair : Pair) (ticks : ℕ) : Type 0 where
    pub taken : List ℕ
    pub answered : List Event
    pub moved : Consumes left rest taken
    pub reads : Reads limit taken answered reader
    pub unsettled : settled reader ≡ None
    pub stands : PairStands b answered pair
    pub seen : viewed answered
    pub ticks_are : ticks ≡ tick_count answered
    pub handed : IsHanded agrees old new (o.text answered) gathered
    pub visits : HaveVisited (history_visits b answered) first pair
    pub moments : length (era answered).moments ≤ length answered
    pub few : 2 * length answered + room reader ≤ limit

-- how a replay of a source ends
abbrev pub Runs : Book → {S : Type 0} → (S → List ℕ → Type 0) → S → S → Pair → ℕ
    → Option (List ℕ) → Option (List ℕ) → Result ℕ RunError → Type 0
Runs b agrees old new = Shows b (blocks_of b) agrees old new
