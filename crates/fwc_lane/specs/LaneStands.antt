-- When a lane stands for an era: what each of its parts holds of the moments so far.
use Rattle.std.specs.Prelude.{◌≡◌, ℕ, suc, ◌<◌, ◌≤◌, Bool, nat_lt, List, length}
use Rattle.ecam_spec.specs.Book.{Book}
use Rattle.ecam_spec.specs.Value.{BusWord}
use Rattle.ecam_spec.specs.History.{Moment, Stroke, Era}
use Rattle.ecam_spec.specs.Replay.{moment_of}
use Rattle.ecam_spec.specs.Situation.{words_in, flight, phase_in, condition_in}
use Rattle.ecam_spec.specs.Screen.{cockpit, attention, panel, picture_in}
use Rattle.ecam_kinds.specs.KeyState.{KeysStand}
use Rattle.ecam_kinds.specs.Shown.{picture_of}
use Rattle.param_table.specs.TableState.{ParamsStand}
use Rattle.flight_phases.specs.State as flight_phases
use Rattle.alert_truth.specs.TruthsState.{TruthsStand}
use Rattle.crew_marks.specs.MarksState.{MarksStand}
use Rattle.attention.specs.State.{AttentionStands}
use Rattle.system_display.specs.Selecting as selecting
use Rattle.fwc_lane.specs.Conditions.{TermsStand, LinesWere, MemosWere}
use Rattle.fwc_lane.specs.Given.{AreBefore}
use Rattle.fwc_lane.specs.ChangedRows.{TellsRows}
use Rattle.fwc_lane.specs.Drawn.{IsDrawn}
use Rattle.fwc_lane.specs.LaneFits.{LaneFits}
use Rattle.fwc_lane.specs.declared.lane.Lane.{Lane}

-- its parts hold what the first k moments leave. Of what is told of a single moment, the last of them is told
pub record WholeStands (b : Book) (m : ℕ → Moment) (k : ℕ) (l : Lane) : Type 0 where
  pub counted : l.moments ≡ k
  pub ticked : l.ticked ≡ nat_lt 0 k
  pub terms : TermsStand b m k l.terms
  pub phases : flight_phases.Stands (flight b m) k l.phase_state
  pub truths : TruthsStand b (condition_in b m) (phase_in b m) k l.truths
  pub marks : MarksStand b (cockpit b m) k l.marks
  pub attention : AttentionStands b (attention b m) k l.attention
  pub selector : selecting.Stands (panel b m) k l.selector
  pub phase : (j : ℕ) → k ≡ suc j → l.phase.number ≡ phase_in b m j
  pub values : AreBefore b (words_in b m) k l.values.items
  pub lines : LinesWere b m k l.lines.items
  pub memos : MemosWere b m k l.memos.items
  pub drawn : IsDrawn b m k (picture_of l.picture) l.counts
  pub changed : TellsRows (picture_in b m) k l.changed

-- these are the whole moments of an era, whatever comes after them
abbrev pub Continues : Era → (ℕ → Moment) → Type 0
Continues e m = (i : ℕ) → i < length e.moments → m i ≡ moment_of e i

-- these are the words, and the strokes, of its moments, that which hasn't ended among them
abbrev pub HasWords : Era → (ℕ → List BusWord) → Type 0
HasWords e words = (i : ℕ) → i ≤ length e.moments → words i ≡ (moment_of e i).words

abbrev pub HasStrokes : Era → (ℕ → List Stroke) → Type 0
HasStrokes e strokes = (i : ℕ) → i ≤ length e.moments → strokes i ≡ (moment_of e i).strokes

-- the lane fits the book; the words and the keys are those that came, the open moment included; and the rest is what
-- the whole moments leave
pub record LaneStands (b : Book) (e : Era) (l : Lane) : Type 0 where
  pub fits : LaneFits b l
  pub params : (words : ℕ → List BusWord) → HasWords e words → ParamsStand b words (length e.moments) l.params
  pub keys : (strokes : ℕ → List Stroke) → HasStrokes e strokes → KeysStand strokes (length e.moments) l.keys
  pub whole : (m : ℕ → Moment) → Continues e m → WholeStands b m (length e.moments) l

-- these computers are up in the moment that hasn't ended
abbrev pub AreUp : Era → Bool → Bool → Type 0
AreUp e one two = e.open_moment.flags ≡ record { one = one; two = two }
