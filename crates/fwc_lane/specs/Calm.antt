-- When a lane is at rest.
use Rattle.std.specs.Prelude.{◌≡◌, ℕ, suc, ◌<◌, true, false, List, None, length, get_or, slice_index}
use Rattle.ecam_spec.specs.declared.kinds.Key.TheVariants.{Rcl, All}
use Rattle.ecam_spec.specs.declared.limits.TheConstants.{PICTURE_ROWS}
use Rattle.ecam_spec.specs.Book.{Book}
use Rattle.ecam_spec.specs.Value.{BusWord, value}
use Rattle.ecam_spec.specs.Phase.{Flight, phase}
use Rattle.ecam_spec.specs.Situation.{parameter_at}
use Rattle.ecam_kinds.specs.KeyState.{is_held}
use Rattle.wakes.specs.Marks.{is_marked}
use Rattle.param_table.specs.Asked.{is_asked_for}
use Rattle.param_table.specs.declared.table.Params.{Params}
use Rattle.param_table.specs.TableState.{ParamsStand, value_before}
use Rattle.flight_phases.specs.Inputs.{SameInputs}
use Rattle.flight_phases.specs.State.{Stands}
use Rattle.flight_phases.specs.declared.state.PhaseState.{PhaseState}
use Rattle.crew_marks.specs.CrewMarks.{stands_normal, IsSettled}
use Rattle.attention.specs.State.{IsSteady}
use Rattle.fwc_lane.specs.Strokes.{NonePressed}
use Rattle.fwc_lane.specs.declared.lane.Lane.{Lane}

-- there was a moment, and nothing that it left turns by itself: no alert is restless, no chime ends, NORMAL doesn't stand. No
-- row of the picture changed in it
pub record IsCalm (l : Lane) : Type 0 where
  pub ticked : l.ticked ≡ true
  pub restless : (a : ℕ) → is_marked l.truths.restless a ≡ false
  pub steady : IsSteady l.attention
  pub normal : stands_normal l.marks.quiet_press l.marks.moments ≡ false
  pub changed : (i : ℕ) → i < PICTURE_ROWS → get_or l.changed i false ≡ false

-- nothing changes in the moment that hasn't ended, in a calm lane: no condition is due, and no key acts in it or was pressed
-- in the one before
pub record RestsNow (l : Lane) : Type 0 where
  pub calm : IsCalm l
  pub dues : (j : ℕ) → j < length l.terms.dues → l.moments < slice_index l.terms.dues j
  pub pressed : NonePressed l.keys
  pub rcl : is_held l.keys Rcl ≡ false
  pub all : is_held l.keys All ≡ false
  pub before : NonePressed l.terms.keys

-- one moment more with the inputs of the last one has its phase too
abbrev pub PhaseStays : PhaseState → Type 0
PhaseStays state = (f : Flight) (k : ℕ) → Stands f (suc k) state → SameInputs f k → phase f (suc k) ≡ phase f k

-- each parameter that the book asks for has the value of the moment before
abbrev pub ValuesStay : Book → Params → Type 0
ValuesStay b params = (words : ℕ → List BusWord) (k : ℕ) → ParamsStand b words k params
    → (p : ℕ) → p < length b.parameters → is_asked_for b p ≡ true → value (parameter_at b p) words k ≡ value_before (parameter_at b p) words k

-- nothing acts in the moment that hasn't ended, nor did in the one before, and the parts that this left stay as they are as
-- long as nothing does
pub record IsIdle (l : Lane) : Type 0 where
  pub calm : IsCalm l
  pub pressed : NonePressed l.keys
  pub rcl : is_held l.keys Rcl ≡ false
  pub all : is_held l.keys All ≡ false
  pub before : NonePressed l.terms.keys
  pub phase : PhaseStays l.phase_state
  pub state : (f : Flight) (k : ℕ) → SameInputs f k → Stands f (suc k) l.phase_state → Stands f (suc (suc k)) l.phase_state
  pub changing : l.truths.changing ≡ false
  pub changed : l.truths.changed ≡ false
  pub marks : IsSettled l.marks
  pub lights : l.attention.changed ≡ false
  pub all_since : l.selector.all_since ≡ None
  pub choice : l.selector.changed ≡ false
