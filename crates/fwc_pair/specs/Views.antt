-- What a view of a replay is handed with an event, and what it writes then.
use Rattle.std.specs.Prelude.{◌≡◌, ℕ, ◌<◌, ◌^◌, Bool, false, List, [], ◌∷◌, ◌++◌}
use Rattle.ecam_io.specs.Outside.{Appended, AppendedPrefix}
use Rattle.ecam_spec.specs.declared.kinds.Event.{Event}
use Rattle.ecam_spec.specs.Book.{Text, Book}
use Rattle.ecam_spec.specs.Keys.{IsEvent}
use Rattle.ecam_spec.specs.RecordLine.{is_end_event}
use Rattle.ecam_spec.specs.Replay.{tick_count}
use Rattle.view_spec.specs.Ticks.{begins_anew}
use Rattle.fwc_pair.specs.PairState.{PairStands}
use Rattle.fwc_pair.specs.declared.pair.Pair.{Pair}

-- the event follows on the history and isn't a record's end, the pair has taken it already, and
-- `fresh` tells whether it begins an era. A record has fewer Ticks
pub record IsNext (b : Book) (h : List Event) (e : Event) (fresh : Bool) (p : Pair) : Type 0 where
  pub event : IsEvent e
  pub goes_on : is_end_event e ≡ false
  pub pair : PairStands b (h ++ e ∷ []) p
  pub fresh_is : fresh ≡ begins_anew h e
  pub few : tick_count h < 2 ^ 32

-- a text that begins with the one before it, and what it has behind that
pub record GoesOn (before after : Text) : Type 0 where
  pub more : Text
  pub joined : after ≡ before ++ more

module _ {S : Type 0} (agrees : S → List ℕ → Type 0) (old new : S) (before after : Text) where
  -- what the text after an event has behind the one before it was written
  pub record Adds : Type 0 where
    pub more : Text
    pub joined : after ≡ before ++ more
    pub written : Appended agrees old new more

  -- or a prefix of that was
  pub record AddsPart : Type 0 where
    pub more : Text
    pub joined : after ≡ before ++ more
    pub written : AppendedPrefix agrees old new more
