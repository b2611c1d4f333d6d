-- A moment that has begun in a lane.
use Rattle.std.specs.Prelude.{◌≡◌, ℕ, suc, ◌<◌, Bool, true, false, nat_lt, None, length, slice_index_or}
use Rattle.ecam_spec.specs.Book.{Book}
use Rattle.ecam_spec.specs.History.{Moment}
use Rattle.ecam_spec.specs.Situation.{flight, phase_in, condition_in, value_in}
use Rattle.ecam_spec.specs.Screen.{cockpit, attention, panel}
use Rattle.ecam_kinds.specs.Shown.{picture_of}
use Rattle.param_table.specs.Asked.{is_asked_for}
use Rattle.flight_phases.specs.State as flight_phases
use Rattle.alert_truth.specs.TruthsState.{TruthsStand}
use Rattle.crew_marks.specs.MarksState.{MarksStand}
use Rattle.attention.specs.State.{AttentionStands}
use Rattle.system_display.specs.Selecting as selecting
use Rattle.fwc_lane.specs.Conditions.{BookHalf, LinesWere, MemosWere}
use Rattle.fwc_lane.specs.Given.{Came}
use Rattle.fwc_lane.specs.Drawn.{IsDrawn}
use Rattle.fwc_lane.specs.declared.lane.Lane.{Lane}

-- what came in moment k is read: in the first moment the values are those of the moment, in a later one those of the
-- parameters that the book asks for are, where none turned as in the one before. Marked are the conditions that the moment
-- wakes. So many nodes were visited before it. All else is what the moments before it left
pub record HasBegun (b : Book) (m : ℕ → Moment) (k visited : ℕ) (one two turned : Bool) (l : Lane) : Type 0 where
  pub came : Came b m k l.params l.keys one two
  pub all : k ≡ 0 → (p : ℕ) → p < length b.parameters → slice_index_or l.values.items p None ≡ value_in b m p k
  pub values : (p : ℕ) → p < length b.parameters → is_asked_for b p ≡ true → slice_index_or l.values.items p None ≡ value_in b m p k
  pub kept : turned ≡ false → (j : ℕ) → k ≡ suc j → (p : ℕ) → p < length b.parameters → is_asked_for b p ≡ true → value_in b m p k ≡ value_in b m p j
  pub terms : BookHalf b m k 0 0 visited l.terms
  pub ticked : l.ticked ≡ nat_lt 0 k
  pub phases : flight_phases.Stands (flight b m) k l.phase_state
  pub truths : TruthsStand b (condition_in b m) (phase_in b m) k l.truths
  pub marks : MarksStand b (cockpit b m) k l.marks
  pub attention : AttentionStands b (attention b m) k l.attention
  pub selector : selecting.Stands (panel b m) k l.selector
  pub phase : (j : ℕ) → k ≡ suc j → l.phase.number ≡ phase_in b m j
  pub lines : LinesWere b m k l.lines.items
  pub memos : MemosWere b m k l.memos.items
  pub drawn : IsDrawn b m k (picture_of l.picture) l.counts
