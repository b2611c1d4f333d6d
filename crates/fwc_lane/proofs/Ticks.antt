-- The end of a moment: what turned in it, and what a lane is then.
use Rattle.std.proofs.Common.{Bor, Vec, Global, ◌≡◌, ℕ, zero, suc, ◌<◌, Bool, true, false, not, List, length, get_or, slice_index, Option, None, sym, ap, subst, ◌∙◌, arith, ltb, eqb}
use Rattle.std.specs.Prelude.{ℤ}
use Rattle.std.proofs.lemmas.Bool.{lt-ltb, ne_eqb}
use Rattle.ecam_spec.specs.Book.{Book}
use Rattle.ecam_spec.specs.BookTerms.{lines_of}
use Rattle.ecam_spec.specs.Past.{previous}
use Rattle.ecam_spec.specs.Term.{holds}
use Rattle.ecam_spec.specs.Crew.{normal}
use Rattle.ecam_spec.specs.History.{Moment}
use Rattle.ecam_spec.specs.Value.{value}
use Rattle.ecam_spec.specs.declared.kinds.Key.{Key}
use Rattle.ecam_spec.specs.Keys.{IsKey, pressed}
use Rattle.ecam_spec.specs.Situation.{words_in, strokes_in, computer_up, parameter_at, phase_in, value_in, world}
use Rattle.ecam_kinds.specs.declared.keys.Keys.{Keys}
use Rattle.ecam_kinds.specs.KeyState.{is_pressed}
use Rattle.param_table.specs.Asked.{is_asked_for}
use Rattle.param_table.specs.declared.table.Params.{Params}
use Rattle.param_table.specs.TableState.{value_before}
use Rattle.ecam_spec.specs.Screen.{cockpit, line_stands}
use Rattle.ecam_kinds.specs.declared.phase.Phase.{Phase}
use Rattle.book_model.specs.Told.{TellsOf}
use Rattle.book_model.specs.Conditions.{places, world_of}
use Rattle.term_eval.specs.Due.{staying, IsDue}
use Rattle.term_eval.specs.NodeState.{NodesStand}
use Rattle.condition_codes.specs.Places.{nodes_before}
use Rattle.fwc_lane.specs.declared.terms.Terms.{Terms}
use Rattle.fwc_lane.specs.Conditions.{TermsStand, BookHalf, AllStepped}
use Rattle.crew_marks.specs.CrewMarks.{CrewMarks}
use Rattle.crew_marks.specs.MarkSets.{MarkSets}
use Rattle.crew_marks.specs.MarksState.{MarksStand}
use Rattle.fwc_lane.specs.declared.lane.Lane.{Lane}
use Rattle.fwc_lane.specs.declared.scene.Turned.{Turned}
use Rattle.fwc_lane.specs.Scenes.{AreTurned}
use Rattle.fwc_lane.specs.LaneStands.{WholeStands}
use Rattle.fwc_lane.specs.Begun.{HasBegun}
use Rattle.fwc_lane.specs.Given.{Lends, Came, AreBefore}
use Rattle.fwc_lane.specs.LineFlags.{KeepsShown}
use Rattle.fwc_lane.proofs.CrewMoments.{shown-told, cancelled-told}
use Rattle.fwc_lane.proofs.LineOwners.{own-place, own-line}

-- what is so of moment k is so of the one before moment k + 1
pub of-last : (P : ℕ → Type 0) (k : ℕ) → P k → (j : ℕ) → suc k ≡ suc j → P j
of-last P k p j e = subst P (let same : k ≡ j = omega arith in same) p

-- there was no moment, or some
pub first-is : (k : ℕ) (ticked first : Bool) → ticked ≡ ltb 0 k → first ≡ not ticked → first ≡ eqb k 0
first-is zero ticked first was is = is ∙ ap not was
first-is (suc k) ticked first was is = is ∙ ap not (was ∙ lt-ltb 0 (suc k) (omega arith)) ∙ sym (ne_eqb (suc k) 0 (λ e. absurd (omega arith)))

-- what turned, by what the lane held before and what the moment made of it
pub record TurnedFrom (b : Book) (m : ℕ → Moment) (k : ℕ) (old : Lane) (t : Turned) (phase : Phase) (others : Bool) (lines memos : List Bool) (marks : CrewMarks) (was calm : Bool) : Type 0 where
  pub first : t.first ≡ not old.ticked
  pub phase_kept : t.phase ≡ false → phase ≡ old.phase
  pub values : t.values ≡ others
  pub lines_kept : t.lines ≡ false → KeepsShown b old.marks.sets.shown old.lines.items lines
  pub memos_kept : t.memos ≡ false → memos ≡ old.memos.items
  pub marks_kept : t.marks ≡ false → marks.sets ≡ old.marks.sets
  pub normal_kept : t.normal ≡ false → calm ≡ was
  pub phase_is : phase.number ≡ phase_in b m k
  pub lines_are : TellsOf lines (lines_of b.alerts) (line_stands b m k)
  pub memos_are : TellsOf memos b.memos (λ x. holds (world b m) x.when k)
  pub marks_are : MarksStand b (cockpit b m) (suc k) marks
  pub was_is : was ≡ previous (normal (cockpit b m)) k
  pub calm_is : calm ≡ previous (normal (cockpit b m)) (suc k)

-- the values of the moment before, where there was one
pub value-before : (b : Book) (m : ℕ → Moment) (k : ℕ) (values : List (Option ℤ)) → AreBefore b (words_in b m) k values → (j : ℕ) → k ≡ suc j
    → (p : ℕ) → p < length b.parameters → is_asked_for b p ≡ true → get_or values p None ≡ value_in b m p j
unfolding value_before value_in
value-before b m k values before j e p lt on = before p lt on ∙ ap (value_before (parameter_at b p) (words_in b m)) e

-- a value that is that of the moment before, by the words so far
pub value-kept : (b : Book) (m : ℕ → Moment) (k j : ℕ) → k ≡ suc j → (p : ℕ) → value (parameter_at b p) (words_in b m) k ≡ value_before (parameter_at b p) (words_in b m) k
    → value_in b m p k ≡ value_in b m p j
unfolding value_before value_in
value-kept b m k j e p same = same ∙ ap (value_before (parameter_at b p) (words_in b m)) e

pub are-turned : (b : Book) (m : ℕ → Moment) (k visited : ℕ) (one two : Bool) (old : Lane) (t : Turned) (phase : Phase) (values : Bool) (lines memos : List Bool) (marks : CrewMarks) (was calm : Bool)
    → HasBegun b m k visited one two values old → TurnedFrom b m k old t phase values lines memos marks was calm → AreTurned b m k t
unfolding previous
are-turned b m k visited one two old t phase values lines memos marks was calm stands from = record {
  first = first-is k old.ticked t.first stands.ticked from.first;
  phase = λ j e off. sym from.phase_is ∙ ap (λ (p : Phase). p.number) (from.phase_kept off) ∙ stands.phase j e;
  values = λ j e off p lt on. stands.kept (sym from.values ∙ off) j e p lt on;
  lines = λ j e off a lt on i l is.
      let there = own-place b a i l lt is in
      let lit = shown-told b m j old.marks (subst (λ n. MarksStand b (cockpit b m) n old.marks) e stands.marks) a lt ∙ on in
      sym (from.lines_are _ l there) ∙ from.lines_kept off a _ lit (own-line b a i l lt is) ∙ stands.lines j e _ l there;
  memos = λ j e off i x is. sym (from.memos_are i x is) ∙ ap (λ fs. get_or fs i false) (from.memos_kept off) ∙ stands.memos j e i x is;
  shown = λ j e off a lt.
      sym (shown-told b m k marks from.marks_are a lt) ∙ ap (λ (s : MarkSets). get_or s.shown a false) (from.marks_kept off)
      ∙ shown-told b m j old.marks (subst (λ n. MarksStand b (cockpit b m) n old.marks) e stands.marks) a lt;
  cancelled = λ j e off a lt.
      sym (cancelled-told b m k marks from.marks_are a lt) ∙ ap (λ (s : MarkSets). get_or s.cancelled a false) (from.marks_kept off)
      ∙ cancelled-told b m j old.marks (subst (λ n. MarksStand b (cockpit b m) n old.marks) e stands.marks) a lt;
  normal = λ j e off. sym from.calm_is ∙ from.normal_kept off ∙ from.was_is ∙ ap (previous (normal (cockpit b m))) e;
}

-- the environment of the moment, by what came in it
pub lends-from : (b : Book) (m : ℕ → Moment) (k : ℕ) (v : Bor (List (Option ℤ))) (p : Phase) (a : Bor (List Bool)) (q : Bor Keys) (o t : Bool) (params : Params) (keys : Keys) → q.now ≡ keys
    → Came b m k params keys o t → (k ≡ 0 → (i : ℕ) → i < length v.now → get_or v.now i None ≡ value_in b m i k) → Lends b m k (record { values = v; phase = p; active = a; keys = q; one_up = o; two_up = t })
lends-from b m k v p a q o t params keys same came values = record {
  values = values;
  pressed = λ key is. ap (λ (ks : Keys). is_pressed ks key) same ∙ came.strokes.pressed key is;
  one_up = came.one_up;
  two_up = came.two_up;
}

-- the same came where the same computers are up
pub came-with : (b : Book) (m : ℕ → Moment) (k : ℕ) (params : Params) (keys : Keys) (one two one' two' : Bool) → one' ≡ one → two' ≡ two → Came b m k params keys one two → Came b m k params keys one' two'
came-with b m k params keys one two one' two' first second came = record {
  words = came.words;
  strokes = came.strokes;
  one_up = first ∙ came.one_up;
  two_up = second ∙ came.two_up;
}

-- the values of a moment, by the words so far
pub values-told : (b : Book) (m : ℕ → Moment) (k : ℕ) (values : List (Option ℤ))
    → ((p : ℕ) → p < length b.parameters → is_asked_for b p ≡ true → get_or values p None ≡ value (parameter_at b p) (words_in b m) k)
    → (p : ℕ) → p < length b.parameters → is_asked_for b p ≡ true → get_or values p None ≡ value_in b m p k
unfolding value_in
values-told b m k values told = told

pub all-told : (b : Book) (m : ℕ → Moment) (k : ℕ) (values : List (Option ℤ)) → ((p : ℕ) → p < length b.parameters → get_or values p None ≡ value (parameter_at b p) (words_in b m) k)
    → (p : ℕ) → p < length b.parameters → get_or values p None ≡ value_in b m p k
unfolding value_in
all-told b m k values told = told

-- and in the moment after it they are those of the moment before
pub values-before : (b : Book) (m : ℕ → Moment) (k : ℕ) (values : List (Option ℤ)) → ((p : ℕ) → p < length b.parameters → is_asked_for b p ≡ true → get_or values p None ≡ value_in b m p k)
    → AreBefore b (words_in b m) (suc k) values
unfolding value_before value_in
values-before b m k values told = told

-- what is kept of the conditions after a moment
pub terms-after : (b : Book) (m : ℕ → Moment) (k visited : ℕ) (t : Terms) (params : Params) (keys kept : Keys) (one two : Bool)
    → ((key : Key) → IsKey key → is_pressed kept key ≡ is_pressed keys key) → AllStepped b m k visited t → Came b m k params keys one two
    → TermsStand b m (suc k) (record t { keys = kept; one_up = one; two_up = two })
terms-after b m k visited t params keys kept one two same all came =
    let back : (h : ℕ) → suc k ≡ suc h → k ≡ h = λ h e. omega (arith, e) in
    record {
      cells = λ j p is. (all.asked j p is).stands;
      nodes = λ h e j p is. subst (λ n. NodesStand (world_of b m j) n p.tree p.at (nodes_before (places b) j) t.cells.nodes) (back h e) (all.asked j p is).nodes;
      wakes = λ h e j p is. (all.asked j p is).wakes;
      told = λ h e j p is. (all.asked j p is).told ∙ ap (holds (world_of b m j) p.tree) (back h e);
      next = λ h e j p is. subst (λ n. IsDue (staying (world_of b m j) n) p.tree n (slice_index t.dues j)) (back h e) (all.asked j p is).next;
      keys = λ h e x at. same x at ∙ came.strokes.pressed x at ∙ ap (pressed (strokes_in b m) x) (back h e);
      one_up = λ h e. came.one_up ∙ ap (computer_up b m 1) (back h e);
      two_up = λ h e. came.two_up ∙ ap (computer_up b m 2) (back h e);
    }

-- a moment has begun in a lane that stood for those before it
pub has-begun : (b : Book) (m : ℕ → Moment) (k visited : ℕ) (one two turned : Bool) (old : Lane) (t : Terms) (values : Vec (Option ℤ) Global) → WholeStands b m k old → Came b m k old.params old.keys one two
    → BookHalf b m k 0 0 visited t → (k ≡ 0 → (p : ℕ) → p < length b.parameters → get_or values.items p None ≡ value_in b m p k)
    → ((p : ℕ) → p < length b.parameters → is_asked_for b p ≡ true → get_or values.items p None ≡ value_in b m p k) → (turned ≡ false → values.items ≡ old.values.items)
    → (idle : Bool) → HasBegun b m k visited one two turned (record old { terms = t; values = values; idle = idle })
has-begun b m k visited one two turned old t values was came half all told kept idle = record {
  came = came;
  all = all;
  values = told;
  kept = λ off j e p lt on. sym (told p lt on) ∙ ap (λ vs. get_or vs p None) (kept off) ∙ value-before b m k old.values.items was.values j e p lt on;
  terms = half;
  ticked = was.ticked;
  phases = was.phases;
  truths = was.truths;
  marks = was.marks;
  attention = was.attention;
  selector = was.selector;
  phase = was.phase;
  lines = was.lines;
  memos = was.memos;
  drawn = was.drawn;
}
