-- What is kept of all conditions of a book while a moment steps them one after another.
use Rattle.std.specs.Prelude.{◌≡◌, ℕ, zero, suc, ◌+◌, ◌-◌, ◌*◌, ◌^◌, ◌<◌, ◌≤◌, min, ◌==◌, Bool, ◌||◌, List, length, slice_get, slice_index, slice_index_or, true, false, Some, AllPairs}
use Rattle.std.specs.List.{list_any}
use Rattle.ecam_spec.specs.declared.kinds.Key.{Key}
use Rattle.ecam_spec.specs.Keys.{IsKey, pressed}
use Rattle.ecam_spec.specs.Book.{Book, Memo}
use Rattle.ecam_spec.specs.BookTerms.{lines_of}
use Rattle.ecam_spec.specs.TermSize.{Placed, slots, EndsBefore}
use Rattle.ecam_spec.specs.Term.{World, holds}
use Rattle.ecam_spec.specs.History.{Moment}
use Rattle.ecam_spec.specs.Situation.{flight, world, condition_in, phase_in, strokes_in, computer_up, flight_world, alert_world, known_below}
use Rattle.ecam_spec.specs.Screen.{line_stands}
use Rattle.ecam_kinds.specs.KeyState.{is_pressed}
use Rattle.ecam_kinds.specs.declared.phase.Phase.{Phase}
use Rattle.book_model.specs.Told.{TellsOf}
use Rattle.book_model.specs.Conditions.{places, lines_from, memos_from, alerts_from, world_of}
use Rattle.term_eval.specs.declared.env.Env.{Env}
use Rattle.term_eval.specs.CellState.{Stand}
use Rattle.term_eval.specs.Code.{IsShort}
use Rattle.term_eval.specs.NodeState.{state_at, NodesWait, NodesStand, first_wake}
use Rattle.term_eval.specs.Asked.{Asks, heard}
use Rattle.term_eval.specs.Due.{staying, IsDue}
use Rattle.term_eval.specs.Woken.{Operand, operands, moved, woken}
use Rattle.wakes.specs.Marks.{is_marked}
use Rattle.condition_codes.specs.Places.{nodes_before}
use Rattle.alert_truth.specs.declared.truths.Truths.{Truths}
use Rattle.alert_truth.specs.TruthsState.{HalfStand, TruthsStand}
use Rattle.flight_phases.specs.State as flight_phases
use Rattle.flight_phases.specs.declared.state.PhaseState.{PhaseState}
use Rattle.fwc_lane.specs.declared.terms.Terms.{Terms}
use Rattle.fwc_lane.specs.Given.{ShowsFirst}
use Rattle.fwc_lane.specs.LineFlags.{stands_by}
use Rattle.fwc_lane.specs.Visits.{visits, IsCounted}

-- ---- one condition

-- condition j, whose nodes start at a place, has been asked in moment k: its cells and its nodes stand for one moment more,
-- and its truth and when it turns are noted
pub record IsAsked (w : World) (k j start : ℕ) (p : Placed) (t : Terms) : Type 0 where
  pub stands : Stand w (suc k) p.tree p.at t.cells.slots
  pub nodes : NodesStand w k p.tree p.at start t.cells.nodes
  pub wakes : slice_index t.dues j ≡ first_wake t.cells.nodes.wakes p.at (slots p.tree)
  pub told : slice_index_or t.truths.items j false ≡ holds w p.tree k
  pub next : IsDue (staying w k) p.tree k (slice_index t.dues j)

-- a condition that isn't stirred in moment h + 1 is due when it was, which is later, and its first node tells what it told
pub record IsUnstirred (w : World) (h due start : ℕ) (p : Placed) (t : Terms) : Type 0 where
  pub later : suc h < due
  pub wakes : first_wake t.cells.nodes.wakes p.at (slots p.tree) ≡ due
  pub told : (state_at t.cells.nodes.states start).told ≡ holds w p.tree h

-- condition j waits to be asked in moment h + 1: what is noted of it is told of moment h, and it is marked where an operand
-- passes the test or where it is due. Of its nodes those have been asked that ask for such an operand. Where it isn't
-- stirred, it is due when it was, which is later, and its first node tells what it told
pub record IsWaiting (w : World) (hit : Operand → Bool) (h j start : ℕ) (p : Placed) (t : Terms) : Type 0 where
  pub due : ℕ
  pub told : slice_index_or t.truths.items j false ≡ holds w p.tree h
  pub next : IsDue (staying w h) p.tree h due
  pub marks : is_marked t.woken j ≡ (list_any hit (operands p.tree) || (due == suc h))
  pub nodes : NodesWait w h (heard hit p.tree) p.tree p.at start t.cells.nodes
  pub kept : is_marked t.stirred j ≡ false → slice_index t.dues j ≡ due
  pub calm : is_marked t.stirred j ≡ false → IsUnstirred w h due start p t

-- condition j hasn't been stepped by moment k yet. In the first moment it is marked and stirred, whatever it names
pub record IsLeft (w : World) (hit : Operand → Bool) (k j start : ℕ) (p : Placed) (t : Terms) : Type 0 where
  pub short : IsShort p.tree
  pub stands : Stand w k p.tree p.at t.cells.slots
  pub first : k ≡ 0 → is_marked t.woken j ≡ true
  pub stirs : k ≡ 0 → is_marked t.stirred j ≡ true
  pub later : (h : ℕ) → k ≡ suc h → IsWaiting w hit h j start p t

-- ---- some conditions

-- in moment k, which hasn't ended, those below i have been stepped, of which those are marked that it wakes, and the others
-- haven't. So many nodes were visited before the moment, and since then those of all that are marked
pub record HalfStepped (ps : List Placed) (worlds : ℕ → World) (hit : Operand → Bool) (k i visited : ℕ) (t : Terms) : Type 0 where
  pub stepped : (j : ℕ) (p : Placed) → j < i → slice_get ps j ≡ Some p → IsAsked (worlds j) k j (nodes_before ps j) p t
  pub marks : (j : ℕ) (p : Placed) → j < i → slice_get ps j ≡ Some p → is_marked t.woken j ≡ woken (worlds j) p.tree k
  pub left : (j : ℕ) (p : Placed) → i ≤ j → slice_get ps j ≡ Some p → IsLeft (worlds j) hit k j (nodes_before ps j) p t
  pub counted : IsCounted ps visited t.woken t.cells.visits

-- of what the condition names, the operands that pass the test are those that moved
pub record TellsMoved (hit : Operand → Bool) (w : World) (k : ℕ) (p : Placed) : Type 0 where
  pub any : list_any hit (operands p.tree) ≡ list_any (moved w k) (operands p.tree)
  pub each : (i : ℕ) (x : Operand) → Asks p.tree i x → hit x ≡ moved w k x

-- condition i of some was stepped by moment k: wherever it is the next of them, and they have slots of their own, the answer
-- is its truth, and it is stepped then
pub record StepsTerm (ps : List Placed) (env : Env) (k i : ℕ) (p : Placed) (old new : Terms) (answer : Bool) : Type 0 where
  pub truth : (worlds : ℕ → World) (hit : Operand → Bool) (visited : ℕ) → slice_get ps i ≡ Some p
      → ShowsFirst env (worlds i) k → TellsMoved hit (worlds i) k p → HalfStepped ps worlds hit k i visited old
      → answer ≡ holds (worlds i) p.tree k
  pub stands : (worlds : ℕ → World) (hit : Operand → Bool) (visited : ℕ) → slice_get ps i ≡ Some p
      → AllPairs EndsBefore ps → ShowsFirst env (worlds i) k → TellsMoved hit (worlds i) k p
      → HalfStepped ps worlds hit k i visited old → HalfStepped ps worlds hit k (suc i) visited new

-- ---- a book's conditions

module _ (b : Book) (moments : ℕ → Moment) where
  -- what is kept of them between moments, after k of them. Before the first nothing but the cells says anything
  pub record TermsStand (k : ℕ) (t : Terms) : Type 0 where
    pub cells : (j : ℕ) (p : Placed) → slice_get (places b) j ≡ Some p → Stand (world_of b moments j) k p.tree p.at t.cells.slots
    pub nodes : (h : ℕ) → k ≡ suc h → (j : ℕ) (p : Placed) → slice_get (places b) j ≡ Some p
        → NodesStand (world_of b moments j) h p.tree p.at (nodes_before (places b) j) t.cells.nodes
    pub wakes : (h : ℕ) → k ≡ suc h → (j : ℕ) (p : Placed) → slice_get (places b) j ≡ Some p
        → slice_index t.dues j ≡ first_wake t.cells.nodes.wakes p.at (slots p.tree)
    pub told : (h : ℕ) → k ≡ suc h → (j : ℕ) (p : Placed) → slice_get (places b) j ≡ Some p
        → slice_index_or t.truths.items j false ≡ holds (world_of b moments j) p.tree h
    pub next : (h : ℕ) → k ≡ suc h → (j : ℕ) (p : Placed) → slice_get (places b) j ≡ Some p
        → IsDue (staying (world_of b moments j) h) p.tree h (slice_index t.dues j)
    pub keys : (h : ℕ) → k ≡ suc h → (key : Key) → IsKey key → is_pressed t.keys key ≡ pressed (strokes_in b moments) key h
    pub one_up : (h : ℕ) → k ≡ suc h → t.one_up ≡ computer_up b moments 1 h
    pub two_up : (h : ℕ) → k ≡ suc h → t.two_up ≡ computer_up b moments 2 h

  -- the world as far as a moment knows it: first neither the phase nor any alert, then the phase, then one alert after
  -- another
  abbrev pub known_world : ℕ → World
  known_world zero = flight_world b moments
  known_world (suc n) = alert_world b moments (known_below b moments n)

  -- in moment k those below i have been stepped, and marked are those of the others that name what moved of what is known
  abbrev pub BookHalf : ℕ → ℕ → ℕ → ℕ → Terms → Type 0
  BookHalf k i known visited t = HalfStepped (places b) (world_of b moments) (moved (known_world known) k) k i visited t

  -- all were stepped by moment k, before which so many nodes were visited
  pub record AllStepped (k visited : ℕ) (t : Terms) : Type 0 where
    pub asked : (j : ℕ) (p : Placed) → slice_get (places b) j ≡ Some p → IsAsked (world_of b moments j) k j (nodes_before (places b) j) p t
    pub counted : t.cells.visits ≡ min (visited + visits b moments k) (2 ^ 64 - 1)

  -- this was the phase of the moment before k
  abbrev pub WasPhase : ℕ → Phase → Type 0
  WasPhase k was = (h : ℕ) → k ≡ suc h → was.number ≡ phase_in b moments h

  -- these flags tell which lines stood in the moment before k, and these which memos held
  abbrev pub LinesWere : ℕ → List Bool → Type 0
  LinesWere k flags = (h : ℕ) → k ≡ suc h → TellsOf flags (lines_of b.alerts) (line_stands b moments h)

  abbrev pub MemosWere : ℕ → List Bool → Type 0
  MemosWere k flags = (h : ℕ) → k ≡ suc h → TellsOf flags b.memos (λ x. holds (world b moments) x.when h)

  -- the alerts below i have been stepped
  pub record AlertsHalf (k i visited : ℕ) (t : Terms) (truths : Truths) : Type 0 where
    pub terms : BookHalf k (alerts_from + i) (suc i) visited t
    pub alerts : HalfStand b (condition_in b moments) (phase_in b moments) k i truths

  -- the conditions of the procedure lines below number i have been stepped. Each flag tells whether its line stands by
  -- what is kept of both of the line's conditions, in the first moment only where the first of them has been stepped
  pub record LinesHalf (k i visited : ℕ) (t : Terms) (flags : List Bool) : Type 0 where
    pub terms : BookHalf k i (suc (length b.alerts)) visited t
    pub told : (j : ℕ) → j < length (lines_of b.alerts) → (k ≡ 0 → lines_from b + 2 * j < i)
        → slice_index_or flags j false ≡ stands_by t.truths.items (lines_from b + 2 * j)

  -- the memos below i have been stepped. Of these the flags tell which hold, and of the others which held in the moment
  -- before
  pub record MemosHalf (k i visited : ℕ) (t : Terms) (flags : List Bool) : Type 0 where
    pub terms : BookHalf k (memos_from b + i) (suc (length b.alerts)) visited t
    pub told : (j : ℕ) (x : Memo) → j < i → slice_get b.memos j ≡ Some x
        → slice_index_or flags j false ≡ holds (world b moments) x.when k
    pub left : (h : ℕ) → k ≡ suc h → (j : ℕ) (x : Memo) → i ≤ j → slice_get b.memos j ≡ Some x
        → slice_index_or flags j false ≡ holds (world b moments) x.when h

  -- what moment k finds, before it steps any condition
  pub record ConditionsWait (k visited : ℕ) (t : Terms) (state : PhaseState) (alerts : Truths) (last : Phase) (stood held : List Bool) : Type 0 where
    pub terms : BookHalf k 0 0 visited t
    pub phases : flight_phases.Stands (flight b moments) k state
    pub truths : TruthsStand b (condition_in b moments) (phase_in b moments) k alerts
    pub was : WasPhase k last
    pub lines : LinesWere k stood
    pub memos : MemosWere k held

  -- all that the conditions of the moments up to k leave
  pub record ConditionsStepped (k visited : ℕ) (t : Terms) (state : PhaseState) (alerts : Truths) : Type 0 where
    pub terms : AllStepped k visited t
    pub phases : flight_phases.Stands (flight b moments) (suc k) state
    pub truths : TruthsStand b (condition_in b moments) (phase_in b moments) (suc k) alerts
