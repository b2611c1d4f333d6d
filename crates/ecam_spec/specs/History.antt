-- What happened: the events of a record, which computers are up after them, the era that they are in, and
-- its moments. All of it is this project's own.
use Rattle.std.specs.Prelude.{◌≡◌, ℕ, ◌<◌, Bool, true, false, not, ◌&&◌, ◌||◌, ◌==◌, List, [], ◌∷◌, ◌++◌, length, get_or, take, drop, fold, if◌then◌else◌}
use Rattle.ecam_spec.specs.declared.kinds.Event.{Event}
use Rattle.ecam_spec.specs.declared.kinds.Event.TheVariants.{Word, Tick, Press, Release, Fail, Up, End}
use Rattle.ecam_spec.specs.declared.kinds.Key.{Key}
use Rattle.ecam_spec.specs.Past.{Signal, last, moment_after}
use Rattle.ecam_spec.specs.Value.{BusWord}

-- which of the two computers are up
pub record Flags : Type 0 where
  pub one : Bool
  pub two : Bool

-- both are, before anything happened
abbrev pub both_up : Flags
both_up = record { one = true; two = true }

abbrev pub none_up : Flags → Bool
none_up f = not (f.one || f.two)

abbrev pub set_flag : ℕ → Bool → Flags → Flags
set_flag n b f = if n == 1 then record f { one = b } else record f { two = b }

-- a computer that fails is down, and one that comes up is up
unfoldable pub flags_with : Flags → Event → Flags
flags_with f (Fail n) = set_flag n false f
flags_with f (Up n) = set_flag n true f
flags_with f _ = f

unfoldable pub flags_after : List Event → Flags
flags_after h = fold flags_with both_up h

abbrev pub comes_up : Event → Bool
comes_up (Up n) = true
comes_up _ = false

-- a computer fails or comes up
abbrev pub changes_computers : Event → Bool
changes_computers (Fail n) = true
changes_computers (Up n) = true
changes_computers _ = false

-- at this place of a history a computer comes up while both were down
unfoldable pub begins_era : List Event → Signal
begins_era h i = comes_up (get_or h i Tick) && none_up (flags_after (take i h))

-- the era begins after the last such place, or with the history
unfoldable pub era_place : List Event → ℕ
era_place h = moment_after (last (begins_era h) (length h))

-- a key goes down, or up
pub record Stroke : Type 0 where
  pub key : Key
  pub down : Bool

-- what came in a moment, in order, and which computers are up at its end
pub record Moment : Type 0 where
  pub words : List BusWord
  pub strokes : List Stroke
  pub flags : Flags

-- a moment begins, in which nothing has come yet
abbrev pub empty_moment : Flags → Moment
empty_moment f = record { words = []; strokes = []; flags = f }

-- the whole moments of an era, and the moment that hasn't ended
pub record Era : Type 0 where
  pub moments : List Moment
  pub open_moment : Moment

-- an era begins with these computers up
abbrev pub empty_era : Flags → Era
empty_era f = record { moments = []; open_moment = empty_moment f }

abbrev pub with_word : BusWord → Moment → Moment
with_word w m = record m { words = m.words ++ w ∷ [] }

abbrev pub with_stroke : Stroke → Moment → Moment
with_stroke s m = record m { strokes = m.strokes ++ s ∷ [] }

-- one more thing comes in moment k, which hasn't ended, and what came before is the same
pub record OneMore {X : Type 0} (old new : ℕ → List X) (k : ℕ) (x : X) : Type 0 where
  pub before : (i : ℕ) → i < k → new i ≡ old i
  pub now : new k ≡ old k ++ x ∷ []

-- an event comes in the moment that hasn't ended, and a Tick ends it
unfoldable pub era_with : Era → Event → Era
era_with e Tick = record { moments = e.moments ++ e.open_moment ∷ []; open_moment = empty_moment e.open_moment.flags }
era_with e (Word b w) = record e { open_moment = with_word (record { bus = b; bits = w }) e.open_moment }
era_with e (Press k) = record e { open_moment = with_stroke (record { key = k; down = true }) e.open_moment }
era_with e (Release k) = record e { open_moment = with_stroke (record { key = k; down = false }) e.open_moment }
era_with e (Fail n) = record e { open_moment = record e.open_moment { flags = flags_with e.open_moment.flags (Fail n) } }
era_with e (Up n) = record e { open_moment = record e.open_moment { flags = flags_with e.open_moment.flags (Up n) } }
era_with e End = e

-- the era that a history is in: what followed its start
unfoldable pub era : List Event → Era
era h = fold era_with (empty_era (flags_after (take (era_place h) h))) (drop (era_place h) h)

-- the era into which an event goes: that of the history before it, or an empty one where the event begins an era
unfoldable pub begun : List Event → Event → Era
begun h x = if comes_up x && none_up (flags_after h) then empty_era (flags_after h) else era h
