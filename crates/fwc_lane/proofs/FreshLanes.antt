-- A lane before anything happened, and one that took over what another holds.
use Rattle.std.proofs.Common.{◌≡◌, ℕ, zero, suc, ◌<◌, Bool, false, List, [], ◌∷◌, get_or, slice_index, None, refl, sym, ap, subst, ◌∙◌, arith}
use Rattle.std.specs.List.{list_any}
use Rattle.fwc_lane.proofs.FlagSteps.{left-false, right-false}
use Rattle.ecam_spec.specs.Book.{Book}
use Rattle.ecam_spec.specs.Value.{BusWord}
use Rattle.ecam_spec.specs.Past.{Signal}
use Rattle.ecam_spec.specs.Phase.{Flight}
use Rattle.ecam_spec.specs.Crew.{Cockpit}
use Rattle.ecam_spec.specs.Lamps as lamps
use Rattle.ecam_spec.specs.Selection.{Panel}
use Rattle.ecam_spec.specs.Picture.{blank}
use Rattle.ecam_spec.specs.History.{Flags, Moment, Stroke, Era, empty_era}
use Rattle.ecam_spec.specs.Replay.{moment_of}
use Rattle.ecam_spec.specs.Situation.{flight, condition_in, phase_in}
use Rattle.ecam_spec.specs.Screen.{cockpit, attention, panel}
use Rattle.ecam_kinds.specs.KeyState.{KeysStand, is_pressed}
use Rattle.ecam_kinds.specs.declared.keys.Keys.{Keys}
use Rattle.ecam_kinds.specs.Shown.{picture_of}
use Rattle.book_model.specs.Conditions.{places, world_of}
use Rattle.book_model.proofs.ConditionRanges.{range}
use Rattle.param_table.specs.TableState.{ParamsStand, value_before}
use Rattle.flight_phases.specs.State as flight_phases
use Rattle.alert_truth.specs.TruthsState.{TruthsStand}
use Rattle.crew_marks.specs.MarksState.{MarksStand}
use Rattle.attention.specs.State.{AttentionStands}
use Rattle.system_display.specs.Selecting as selecting
use Rattle.term_eval.specs.CellState.{Stand, StandForNone}
use Rattle.term_eval.specs.Memory.{NodeMemory}
use Rattle.term_eval.specs.NodeState.{NodesStand, first_wake}
use Rattle.condition_codes.specs.Places.{nodes_before}
use Rattle.ecam_spec.specs.TermSize.{slots}
use Rattle.term_eval.specs.Due.{staying, IsDue}
use Rattle.fwc_lane.specs.declared.terms.Terms.{Terms}
use Rattle.fwc_lane.specs.TermsFit.{TookTerms}
use Rattle.fwc_lane.specs.Conditions.{TermsStand}
use Rattle.fwc_lane.specs.declared.lane.Lane.{Lane}
use Rattle.fwc_lane.specs.ChangedRows.{row_changed}
use Rattle.fwc_lane.specs.LaneFits.{LaneFits}
use Rattle.fwc_lane.specs.LaneStands.{WholeStands, LaneStands}

-- what each part says before anything happened
pub record IsFresh (b : Book) (l : Lane) : Type 0 where
  pub moments : l.moments ≡ 0
  pub ticked : l.ticked ≡ false
  pub params : (words : ℕ → List BusWord) → words 0 ≡ [] → ParamsStand b words 0 l.params
  pub values : (p : ℕ) → get_or l.values.items p None ≡ None
  pub keys : (strokes : ℕ → List Stroke) → strokes 0 ≡ [] → KeysStand strokes 0 l.keys
  pub cells : StandForNone l.terms.cells.slots
  pub phases : (f : Flight) → flight_phases.Stands f 0 l.phase_state
  pub truths : (conditions : ℕ → Signal) (phases : ℕ → ℕ) → TruthsStand b conditions phases 0 l.truths
  pub marks : (c : Cockpit) → MarksStand b c 0 l.marks
  pub attention : (a : lamps.Attention) → AttentionStands b a 0 l.attention
  pub selector : (p : Panel) → selecting.Stands p 0 l.selector
  pub picture : picture_of l.picture ≡ blank
  pub changed : (i : ℕ) → i < 36 → get_or l.changed i false ≡ false

-- flags of which none is set
pub none-set : (flags : List Bool) → list_any (λ b. b) flags ≡ false → (i : ℕ) → get_or flags i false ≡ false
none-set [] none i = refl
none-set (f ∷ fs) none zero = left-false f (list_any (λ b. b) fs) none
none-set (f ∷ fs) none (suc i) = none-set fs (right-false f (list_any (λ b. b) fs) none) i

fresh-whole : (b : Book) (l : Lane) → LaneFits b l → IsFresh b l → (m : ℕ → Moment) → WholeStands b m 0 l
unfolding row_changed value_before
fresh-whole b l fits fresh m = record {
  counted = fresh.moments;
  ticked = fresh.ticked;
  terms = record {
    cells = λ j p is. fresh.cells (world_of b m j) p.tree p.at (omega (arith, range b j p is, fits.terms.slots));
    nodes = λ h e. absurd (omega arith);
    wakes = λ h e. absurd (omega arith);
    told = λ h e. absurd (omega arith);
    next = λ h e. absurd (omega arith);
    keys = λ h e. absurd (omega arith);
    one_up = λ h e. absurd (omega arith);
    two_up = λ h e. absurd (omega arith);
  };
  phases = fresh.phases (flight b m);
  truths = fresh.truths (condition_in b m) (phase_in b m);
  marks = fresh.marks (cockpit b m);
  attention = fresh.attention (attention b m);
  selector = fresh.selector (panel b m);
  phase = λ j e. absurd (omega arith);
  values = λ p lt on. fresh.values p;
  lines = λ j e. absurd (omega arith);
  memos = λ j e. absurd (omega arith);
  drawn = record { picture = fresh.picture; counted = λ j e. absurd (omega arith) };
  changed = fresh.changed;
}

pub fresh-lane : (b : Book) (f : Flags) (l : Lane) → LaneFits b l → IsFresh b l → LaneStands b (empty_era f) l
unfolding moment_of
fresh-lane b f l fits fresh = record {
  fits = fits;
  params = λ words has. fresh.params words (has 0 (omega arith));
  keys = λ strokes has. fresh.keys strokes (has 0 (omega arith));
  whole = λ m goes. fresh-whole b l fits fresh m;
}

-- ---- taking over

-- a lane that took over what another holds
pub record TookOver (b : Book) (other l : Lane) : Type 0 where
  pub moments : l.moments ≡ other.moments
  pub ticked : l.ticked ≡ other.ticked
  pub params : (words : ℕ → List BusWord) (k : ℕ) → ParamsStand b words k other.params → ParamsStand b words k l.params
  pub keys : l.keys ≡ other.keys
  pub terms : TookTerms other.terms l.terms
  pub phases : l.phase_state ≡ other.phase_state
  pub phase : l.phase ≡ other.phase
  pub truths : (conditions : ℕ → Signal) (phases : ℕ → ℕ) (k : ℕ) → TruthsStand b conditions phases k other.truths → TruthsStand b conditions phases k l.truths
  pub marks : l.marks ≡ other.marks
  pub attention : (a : lamps.Attention) (k : ℕ) → AttentionStands b a k other.attention → AttentionStands b a k l.attention
  pub selector : l.selector ≡ other.selector
  pub values : l.values.items ≡ other.values.items
  pub lines : l.lines.items ≡ other.lines.items
  pub memos : l.memos.items ≡ other.memos.items
  pub picture : picture_of l.picture ≡ picture_of other.picture
  pub changed : l.changed ≡ other.changed
  pub counts : l.counts ≡ other.counts

took-terms : (b : Book) (m : ℕ → Moment) (k : ℕ) (other t : Terms) → TookTerms other t → TermsStand b m k other → TermsStand b m k t
took-terms b m k other t took was = record {
  cells = λ j p is. subst (Stand (world_of b m j) k p.tree p.at) (sym took.slots) (was.cells j p is);
  nodes = λ h e j p is. subst (NodesStand (world_of b m j) h p.tree p.at (nodes_before (places b) j)) (sym took.nodes) (was.nodes h e j p is);
  wakes = λ h e j p is.
      ap (λ ys. slice_index ys j) took.dues ∙ was.wakes h e j p is ∙ ap (λ (n : NodeMemory). first_wake n.wakes p.at (slots p.tree)) (sym took.nodes);
  told = λ h e j p is. ap (λ ys. get_or ys j false) took.truths ∙ was.told h e j p is;
  next = λ h e j p is. subst (IsDue (staying (world_of b m j) h) p.tree h) (sym (ap (λ ys. slice_index ys j) took.dues)) (was.next h e j p is);
  keys = λ h e x at. ap (λ (q : Keys). is_pressed q x) took.keys ∙ was.keys h e x at;
  one_up = λ h e. took.one_up ∙ was.one_up h e;
  two_up = λ h e. took.two_up ∙ was.two_up h e;
}

took-whole : (b : Book) (other l : Lane) → TookOver b other l → (m : ℕ → Moment) (k : ℕ) → WholeStands b m k other → WholeStands b m k l
took-whole b other l took m k was = record {
  counted = took.moments ∙ was.counted;
  ticked = took.ticked ∙ was.ticked;
  terms = took-terms b m k other.terms l.terms took.terms was.terms;
  phases = rw took.phases was.phases;
  truths = took.truths (condition_in b m) (phase_in b m) k was.truths;
  marks = rw took.marks was.marks;
  attention = took.attention (attention b m) k was.attention;
  selector = rw took.selector was.selector;
  phase = λ j e. ap (λ p. p.number) took.phase ∙ was.phase j e;
  values = rw took.values was.values;
  lines = λ j e. rw took.lines (was.lines j e);
  memos = λ j e. rw took.memos (was.memos j e);
  drawn = record { picture = took.picture ∙ was.drawn.picture; counted = λ j e. rw took.counts (was.drawn.counted j e) };
  changed = rw took.changed was.changed;
}

pub took-lane : (b : Book) (e : Era) (other l : Lane) → LaneFits b l → TookOver b other l → LaneStands b e other → LaneStands b e l
took-lane b e other l fits took was = record {
  fits = fits;
  params = λ words has. took.params words _ (was.params words has);
  keys = λ strokes has. rw took.keys (was.keys strokes has);
  whole = λ m goes. took-whole b other l took m _ (was.whole m goes);
}
