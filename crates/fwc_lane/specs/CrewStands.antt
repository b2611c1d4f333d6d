-- What the crew's part of a lane holds after some moments.
use Rattle.std.specs.Prelude.{◌≡◌, ℕ, suc, ◌<◌, List, length, false}
use Rattle.ecam_spec.specs.Book.{Book}
use Rattle.ecam_spec.specs.History.{Moment}
use Rattle.ecam_spec.specs.Situation.{up_in}
use Rattle.ecam_spec.specs.Screen.{cockpit, attention, panel, shown_in}
use Rattle.wakes.specs.Marks.{is_marked}
use Rattle.crew_marks.specs.CrewMarks.{CrewMarks}
use Rattle.crew_marks.specs.MarksState.{MarksStand}
use Rattle.attention.specs.State.{AttentionStands, StaysAt}
use Rattle.attention.specs.declared.state.Attention.{Attention}
use Rattle.system_display.specs.Selecting as selecting
use Rattle.system_display.specs.declared.selector.Selector.{Selector}

-- the marks, the lights with the sound, and the selection stand for the first k moments
pub record CrewStands (b : Book) (m : ℕ → Moment) (k : ℕ) (marked : CrewMarks) (lit : Attention) (selected : Selector) : Type 0 where
  pub marks : MarksStand b (cockpit b m) k marked
  pub lights : AttentionStands b (attention b m) k lit
  pub selection : selecting.Stands (panel b m) k selected

-- moment k shows the alerts that the one before it showed, where there was one
abbrev pub IsShownAsBefore : Book → (ℕ → Moment) → ℕ → Type 0
IsShownAsBefore b m k = (j : ℕ) → k ≡ suc j → shown_in b m k ≡ shown_in b m j

-- in moment k alert a is up where it was in the one before, if there was one
abbrev pub IsUpAsBefore : Book → (ℕ → Moment) → ℕ → ℕ → Type 0
IsUpAsBefore b m k a = (j : ℕ) → k ≡ suc j → up_in b m a k ≡ up_in b m a j

-- in moment k each alert that isn't in the set is up and shown as in the one before
abbrev pub OthersAsBefore : Book → (ℕ → Moment) → ℕ → List ℕ → Type 0
OthersAsBefore b m k looked = (a : ℕ) → a < length b.alerts → is_marked looked a ≡ false → StaysAt (attention b m) k a
