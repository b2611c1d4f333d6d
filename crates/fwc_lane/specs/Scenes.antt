-- What a moment has to show, and what of it is as in the moment before.
use Rattle.std.specs.Prelude.{◌≡◌, ℕ, suc, ◌<◌, ◌≤◌, Bool, true, false, ◌||◌, ◌==◌, length, slice_index_or, slice_get, None, Some}
use Rattle.ecam_spec.specs.Book.{Book, Line, Memo}
use Rattle.ecam_spec.specs.BookTerms.{lines_of}
use Rattle.ecam_spec.specs.Term.{holds}
use Rattle.ecam_spec.specs.Crew.{normal}
use Rattle.ecam_spec.specs.History.{Moment}
use Rattle.ecam_spec.specs.Situation.{alert_at, value_in, phase_in, condition_in, world}
use Rattle.ecam_spec.specs.Screen.{cockpit, attention, panel, line_stands, is_shown_in, cancelled_in}
use Rattle.book_model.specs.Told.{TellsOf}
use Rattle.wakes.specs.Marks.{is_marked, room}
use Rattle.param_table.specs.Asked.{is_asked_for}
use Rattle.system_display.specs.Pages.{AreShort}
use Rattle.alert_truth.specs.TruthsState.{TruthsFit, TruthsStand}
use Rattle.crew_marks.specs.MarksState.{MarksFit, MarksStand}
use Rattle.attention.specs.State.{AttentionStands}
use Rattle.status_page.specs.StatusOf.{TellsStatusLines}
use Rattle.system_display.specs.Selecting as selecting
use Rattle.ecam_spec.specs.declared.kinds.Choice.{Choice}
use Rattle.ecam_spec.specs.declared.kinds.Choice.TheVariants.{Auto, Page, Status}
use Rattle.fwc_lane.specs.declared.scene.Turned.{Turned}
use Rattle.fwc_lane.specs.declared.scene.Scene.{Scene}

-- its parts were made for the book, and it tells whether that has status lines
pub record SceneFits (b : Book) (s : Scene) : Type 0 where
  pub truths : TruthsFit b s.truths.now
  pub marks : MarksFit b s.marks.now
  pub selector : selecting.SelectorFits b s.selector.now
  pub values : length s.values.now ≡ length b.parameters
  pub lines : length s.lines.now ≡ length (lines_of b.alerts)
  pub memos : length s.memos.now ≡ length b.memos
  pub turned : length b.parameters ≤ room s.turned.now
  pub short : AreShort s.values.now
  pub first : 1 ≤ s.phase.number
  pub last : s.phase.number ≤ 10
  pub status_lines : TellsStatusLines b s.has_status_lines

-- it is what moment k shows, with the values of the parameters that the book asks for, of which each that isn't marked
-- has the value of the moment before
pub record SceneStands (b : Book) (m : ℕ → Moment) (k : ℕ) (s : Scene) : Type 0 where
  pub phase : s.phase.number ≡ phase_in b m k
  pub values : (p : ℕ) → p < length b.parameters → is_asked_for b p ≡ true → slice_index_or s.values.now p None ≡ value_in b m p k
  pub lines : TellsOf s.lines.now (lines_of b.alerts) (line_stands b m k)
  pub memos : TellsOf s.memos.now b.memos (λ x. holds (world b m) x.when k)
  pub turned : (j : ℕ) → k ≡ suc j → (p : ℕ) → p < length b.parameters → is_asked_for b p ≡ true → is_marked s.turned.now p ≡ false
      → value_in b m p k ≡ value_in b m p j
  pub truths : TruthsStand b (condition_in b m) (phase_in b m) (suc k) s.truths.now
  pub marks : MarksStand b (cockpit b m) (suc k) s.marks.now
  pub attention : AttentionStands b (attention b m) (suc k) s.attention.now
  pub selector : selecting.Stands (panel b m) (suc k) s.selector.now

-- what didn't turn in moment k is as it was in the moment before, of which there is one where it isn't the first. Of
-- values it speaks of those that the book asks for, and of lines of those whose alerts the moment before showed
pub record AreTurned (b : Book) (m : ℕ → Moment) (k : ℕ) (t : Turned) : Type 0 where
  pub first : t.first ≡ (k == 0)
  pub phase : (j : ℕ) → k ≡ suc j → t.phase ≡ false → phase_in b m k ≡ phase_in b m j
  pub values : (j : ℕ) → k ≡ suc j → t.values ≡ false → (p : ℕ) → p < length b.parameters → is_asked_for b p ≡ true → value_in b m p k ≡ value_in b m p j
  pub lines : (j : ℕ) → k ≡ suc j → t.lines ≡ false → (a : ℕ) → a < length b.alerts → is_shown_in b m a j ≡ true
      → (i : ℕ) (l : Line) → slice_get (alert_at b a).lines i ≡ Some l → line_stands b m k l ≡ line_stands b m j l
  pub memos : (j : ℕ) → k ≡ suc j → t.memos ≡ false → (i : ℕ) (x : Memo) → slice_get b.memos i ≡ Some x
      → holds (world b m) x.when k ≡ holds (world b m) x.when j
  pub shown : (j : ℕ) → k ≡ suc j → t.marks ≡ false → (a : ℕ) → a < length b.alerts → is_shown_in b m a k ≡ is_shown_in b m a j
  pub cancelled : (j : ℕ) → k ≡ suc j → t.marks ≡ false → (a : ℕ) → a < length b.alerts → cancelled_in b m a k ≡ cancelled_in b m a j
  pub normal : (j : ℕ) → k ≡ suc j → t.normal ≡ false → normal (cockpit b m) k ≡ normal (cockpit b m) j

-- something turned that the system display shows, where this is chosen
abbrev pub shown_turned : Turned → Choice → Bool → Bool
shown_turned t Auto truths = t.values || (t.marks || t.phase)
shown_turned t (Page i) truths = t.values
shown_turned t (Status q) truths = truths || t.marks
