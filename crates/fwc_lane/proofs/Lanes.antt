-- One event more: for which era a lane stands then, by what its parts stand for.
use Rattle.std.proofs.Common.{◌≡◌, ℕ, zero, suc, ◌+◌, ◌-◌, ◌^◌, ◌<◌, ◌≤◌, min, Bool, true, false, List, [], ◌∷◌, ◌++◌, length, refl, sym, ap, subst, ◌∙◌, inl, inr, arith}
use Rattle.std.proofs.Math.Nat.{eq-or-lt_of_le}
use Rattle.ecam_spec.specs.declared.kinds.Event.{Event}
use Rattle.ecam_spec.specs.declared.kinds.Event.TheVariants.{Word, Tick, Press, Release, Fail, Up, End}
use Rattle.ecam_spec.specs.declared.kinds.Key.{Key}
use Rattle.ecam_spec.specs.Book.{Parameter, Book}
use Rattle.ecam_spec.specs.Value.{BusWord}
use Rattle.ecam_spec.specs.History.{Flags, Moment, Stroke, Era, era_with, changes_computers, OneMore}
use Rattle.ecam_spec.specs.Replay.{is_tick, moment_of}
use Rattle.ecam_spec.specs.Situation.{words_in, strokes_in, computer_up}
use Rattle.ecam_spec.proofs.ValueAgree.{value-below}
use Rattle.ecam_spec.proofs.MomentSteps.{moment_open, moments_kept, moment_kept, moment_tick, length_tick, moment_begun, moment_word, moment_press, moment_release, moment_computers}
use Rattle.ecam_kinds.specs.declared.keys.Keys.{Keys}
use Rattle.ecam_kinds.specs.KeyState.{KeysStand}
use Rattle.param_table.specs.declared.table.Params.{Params}
use Rattle.param_table.specs.TableState.{ParamsFit, ParamsStand, value_before}
use Rattle.fwc_lane.specs.declared.lane.Lane.{Lane}
use Rattle.fwc_lane.specs.Calm.{IsCalm, IsIdle}
use Rattle.fwc_lane.specs.LaneFits.{LaneFits}
use Rattle.fwc_lane.specs.LaneStands.{WholeStands, Continues, HasWords, HasStrokes, LaneStands, AreUp}
use Rattle.fwc_lane.specs.Given.{Came}
use Rattle.fwc_lane.specs.Visits.{visits}

-- ---- the value of a parameter in the last whole moment

-- it is told by the words before the moment that hasn't ended
pub value_before-same : (p : Parameter) (v w : ℕ → List BusWord) (k : ℕ) → ((i : ℕ) → i < k → v i ≡ w i) → value_before p v k ≡ value_before p w k
unfolding value_before
value_before-same p v w zero same = refl
value_before-same p v w (suc j) same = value-below v w j (λ i le. same i (omega arith)) p

-- ---- an event that ends no moment

module _ (b : Book) (e : Era) (x : Event) (quiet : is_tick x ≡ false) where
  same-length : length (era_with e x).moments ≡ length e.moments
  same-length = ap length (moments_kept e x quiet)

  whole-continues : (m : ℕ → Moment) → Continues (era_with e x) m → Continues e m
  whole-continues m goes = λ i lt. goes i (omega (arith, same-length)) ∙ moment_kept e x i quiet lt

  -- an event that brings no word, and one that brings no stroke
  words-kept : (moment_of (era_with e x) (length e.moments)).words ≡ (moment_of e (length e.moments)).words → (words : ℕ → List BusWord) → HasWords (era_with e x) words → HasWords e words
  words-kept same words has = λ i le.
      has i (omega (arith, same-length))
      ∙ elim (eq-or-lt_of_le le) [
        | inl at ↦ ap (λ n. (moment_of (era_with e x) n).words) at ∙ same ∙ ap (λ n. (moment_of e n).words) (sym at)
        | inr lt ↦ ap (λ (z : Moment). z.words) (moment_kept e x i quiet lt)
      ]

  strokes-kept : (moment_of (era_with e x) (length e.moments)).strokes ≡ (moment_of e (length e.moments)).strokes → (strokes : ℕ → List Stroke) → HasStrokes (era_with e x) strokes → HasStrokes e strokes
  strokes-kept same strokes has = λ i le.
      has i (omega (arith, same-length))
      ∙ elim (eq-or-lt_of_le le) [
        | inl at ↦ ap (λ n. (moment_of (era_with e x) n).strokes) at ∙ same ∙ ap (λ n. (moment_of e n).strokes) (sym at)
        | inr lt ↦ ap (λ (z : Moment). z.strokes) (moment_kept e x i quiet lt)
      ]

  module _ (old : Lane) (stands : LaneStands b e old) (p : Params) (q : Keys) (i : Bool) where
    whole-kept : (m : ℕ → Moment) → Continues (era_with e x) m → WholeStands b m (length (era_with e x).moments) (record old { params = p; keys = q; idle = i })
    whole-kept m goes =
        let was = stands.whole m (whole-continues m goes) in
        subst (λ n. WholeStands b m n (record old { params = p; keys = q; idle = i })) (sym same-length) record {
          counted = was.counted;
          ticked = was.ticked;
          terms = was.terms;
          phases = was.phases;
          truths = was.truths;
          marks = was.marks;
          attention = was.attention;
          selector = was.selector;
          phase = was.phase;
          values = was.values;
          lines = was.lines;
          memos = was.memos;
          drawn = was.drawn;
          changed = was.changed;
        }

    quiet-lane : LaneFits b (record old { params = p; keys = q; idle = i })
        → ((words : ℕ → List BusWord) → HasWords (era_with e x) words → ParamsStand b words (length e.moments) p)
        → ((strokes : ℕ → List Stroke) → HasStrokes (era_with e x) strokes → KeysStand strokes (length e.moments) q)
        → LaneStands b (era_with e x) (record old { params = p; keys = q; idle = i })
    quiet-lane fits params keys = record {
      fits = fits;
      params = λ words has. subst (λ n. ParamsStand b words n p) (sym same-length) (params words has);
      keys = λ strokes has. subst (λ n. KeysStand strokes n q) (sym same-length) (keys strokes has);
      whole = whole-kept;
    }

-- a calm lane stays calm with other words and keys
pub calm-with : (old : Lane) (p : Params) (q : Keys) (i : Bool) → IsCalm old → IsCalm (record old { params = p; keys = q; idle = i })
calm-with old p q i calm = record { ticked = calm.ticked; restless = calm.restless; steady = calm.steady; normal = calm.normal; changed = calm.changed }

-- an idle lane stays idle with other words
pub idle-with : (old : Lane) (p : Params) → IsIdle old → IsIdle (record old { params = p })
idle-with old p idle = record {
  calm = calm-with old p old.keys old.idle idle.calm;
  pressed = idle.pressed;
  rcl = idle.rcl;
  all = idle.all;
  before = idle.before;
  phase = idle.phase;
  state = idle.state;
  changing = idle.changing;
  changed = idle.changed;
  marks = idle.marks;
  lights = idle.lights;
  all_since = idle.all_since;
  choice = idle.choice;
}

-- the parts of a lane that came into being fit as the lane did before
pub fits-with : (b : Book) (old : Lane) (p : Params) (q : Keys) (i : Bool) → LaneFits b old → ParamsFit b p → (i ≡ true → IsIdle (record old { params = p; keys = q; idle = i })) → LaneFits b (record old { params = p; keys = q; idle = i })
fits-with b old p q i fits own idle = record {
  params = own;
  truths = fits.truths;
  marks = fits.marks;
  attention = fits.attention;
  selector = fits.selector;
  values = fits.values;
  short = fits.short;
  terms = fits.terms;
  lines = fits.lines;
  memos = fits.memos;
  status_lines = fits.status_lines;
  truths_moments = fits.truths_moments;
  marks_moments = fits.marks_moments;
  attention_moments = fits.attention_moments;
  selector_moments = fits.selector_moments;
  calm = λ on. calm-with old p q i (fits.calm on);
  idle = idle;
}

-- a word
pub word-lane : (b : Book) (e : Era) (bus bits : ℕ) (old : Lane) (p : Params) → LaneStands b e old → ParamsFit b p
    → ((before after : ℕ → List BusWord) (k : ℕ) → OneMore before after k (record { bus = bus; bits = bits }) → ParamsStand b before k old.params → ParamsStand b after k p)
    → LaneStands b (era_with e (Word bus bits)) (record old { params = p })
word-lane b e bus bits old p stands fits takes =
    let x = Word bus bits in
    let at = moment_word e bus bits in
    quiet-lane b e x refl old stands p old.keys old.idle (fits-with b old p old.keys old.idle stands.fits fits (λ on. idle-with old p (stands.fits.idle on)))
    (λ words has.
    takes (words_in b (moment_of e)) words (length e.moments)
    (record {
      before = λ i lt. has i (omega (arith, same-length b e x refl)) ∙ ap (λ (z : Moment). z.words) (moment_kept e x i refl lt);
      now = has (length e.moments) (omega (arith, same-length b e x refl)) ∙ ap (λ (z : Moment). z.words) at;
    })
    (stands.params (words_in b (moment_of e)) (λ i le. refl)))
    (λ strokes has. stands.keys strokes (strokes-kept b e x refl (ap (λ (z : Moment). z.strokes) at) strokes has))

-- a key
pub stroke-lane : (b : Book) (e : Era) (x : Event) (s : Stroke) (old : Lane) (q : Keys) → is_tick x ≡ false
    → (moment_of (era_with e x) (length e.moments)).words ≡ (moment_of e (length e.moments)).words
    → (moment_of (era_with e x) (length e.moments)).strokes ≡ (moment_of e (length e.moments)).strokes ++ s ∷ []
    → LaneStands b e old → ((before after : ℕ → List Stroke) (k : ℕ) → OneMore before after k s → KeysStand before k old.keys → KeysStand after k q)
    → LaneStands b (era_with e x) (record old { keys = q; idle = false })
stroke-lane b e x s old q quiet words strokes stands takes =
    quiet-lane b e x quiet old stands old.params q false (fits-with b old old.params q false stands.fits stands.fits.params (λ on. absurd (let w : ⊥ = cc in w)))
    (λ ws has. stands.params ws (words-kept b e x quiet words ws has))
    (λ ss has.
    takes (strokes_in b (moment_of e)) ss (length e.moments)
    (record {
      before = λ i lt. has i (omega (arith, same-length b e x quiet)) ∙ ap (λ (z : Moment). z.strokes) (moment_kept e x i quiet lt);
      now = has (length e.moments) (omega (arith, same-length b e x quiet)) ∙ strokes;
    })
    (stands.keys (strokes_in b (moment_of e)) (λ i le. refl)))

pub press-lane : (b : Book) (e : Era) (key : Key) (old : Lane) (q : Keys) → LaneStands b e old
    → ((before after : ℕ → List Stroke) (k : ℕ) → OneMore before after k (record { key = key; down = true }) → KeysStand before k old.keys → KeysStand after k q)
    → LaneStands b (era_with e (Press key)) (record old { keys = q; idle = false })
press-lane b e key old q stands takes =
    stroke-lane b e (Press key) (record { key = key; down = true }) old q refl (ap (λ (z : Moment). z.words) (moment_press e key)) (ap (λ (z : Moment). z.strokes) (moment_press e key)) stands takes

pub release-lane : (b : Book) (e : Era) (key : Key) (old : Lane) (q : Keys) → LaneStands b e old
    → ((before after : ℕ → List Stroke) (k : ℕ) → OneMore before after k (record { key = key; down = false }) → KeysStand before k old.keys → KeysStand after k q)
    → LaneStands b (era_with e (Release key)) (record old { keys = q; idle = false })
release-lane b e key old q stands takes =
    stroke-lane b e (Release key) (record { key = key; down = false }) old q refl (ap (λ (z : Moment). z.words) (moment_release e key)) (ap (λ (z : Moment). z.strokes) (moment_release e key)) stands takes

-- a computer fails or comes up
computer-lane : (b : Book) (e : Era) (x : Event) (old : Lane) → is_tick x ≡ false → changes_computers x ≡ true → LaneStands b e old → LaneStands b (era_with e x) old
computer-lane b e x old quiet changes stands =
    quiet-lane b e x quiet old stands old.params old.keys old.idle stands.fits
    (λ ws has. stands.params ws (words-kept b e x quiet (ap (λ (z : Moment). z.words) (moment_computers e x changes)) ws has))
    (λ ss has. stands.keys ss (strokes-kept b e x quiet (ap (λ (z : Moment). z.strokes) (moment_computers e x changes)) ss has))

pub fail-lane : (b : Book) (e : Era) (n : ℕ) (old : Lane) → LaneStands b e old → LaneStands b (era_with e (Fail n)) old
fail-lane b e n old stands = computer-lane b e (Fail n) old refl refl stands

pub up-lane : (b : Book) (e : Era) (n : ℕ) (old : Lane) → LaneStands b e old → LaneStands b (era_with e (Up n)) old
up-lane b e n old stands = computer-lane b e (Up n) old refl refl stands

pub end-lane : (b : Book) (e : Era) (old : Lane) → LaneStands b e old → LaneStands b (era_with e End) old
unfolding era_with
end-lane b e old stands = stands

-- ---- a Tick

-- what it does to the parts of a lane
pub record Ticks (b : Book) (one two : Bool) (old new : Lane) : Type 0 where
  pub params : (words : ℕ → List BusWord) (k : ℕ) → words (suc k) ≡ [] → ParamsStand b words k old.params → ParamsStand b words (suc k) new.params
  pub keys : (strokes : ℕ → List Stroke) (k : ℕ) → strokes (suc k) ≡ [] → KeysStand strokes k old.keys → KeysStand strokes (suc k) new.keys
  pub whole : (m : ℕ → Moment) → Came b m old.moments old.params old.keys one two → WholeStands b m old.moments old → WholeStands b m (suc old.moments) new

module _ (b : Book) (e : Era) (one two : Bool) (up : AreUp (era_with e Tick) one two) (old new : Lane) (stands : LaneStands b e old) (ticks : Ticks b one two old new) where
  many : ℕ
  many = length e.moments

  longer : length (era_with e Tick).moments ≡ suc many
  unfolding many
  longer = length_tick e

  module _ (m : ℕ → Moment) (goes : Continues (era_with e Tick) m) where
    all-same : (i : ℕ) → i ≤ many → m i ≡ moment_of e i
    unfolding many
    all-same i le = goes i (omega (arith, longer)) ∙ moment_tick e i le

    ends-with : (m many).flags ≡ record { one = one; two = two }
    unfolding many era_with
    ends-with = ap (λ (z : Moment). z.flags) (all-same (length e.moments) (omega arith) ∙ moment_open e (length e.moments) (omega arith)) ∙ up

    came : Came b m many old.params old.keys one two
    unfolding many computer_up
    came = record {
      words = stands.params (words_in b m) (λ i le. ap (λ (z : Moment). z.words) (all-same i le));
      strokes = stands.keys (strokes_in b m) (λ i le. ap (λ (z : Moment). z.strokes) (all-same i le));
      one_up = sym (ap (λ (f : Flags). f.one) ends-with);
      two_up = sym (ap (λ (f : Flags). f.two) ends-with);
    }

    tick-whole : WholeStands b m (length (era_with e Tick).moments) new
    unfolding many
    tick-whole =
        let was : WholeStands b m (length e.moments) old = stands.whole m (λ i lt. all-same i (omega arith)) in
        let here : length e.moments ≡ old.moments = sym was.counted in
        subst (λ n. WholeStands b m n new) (ap suc (sym here) ∙ sym longer)
        (ticks.whole m (subst (λ n. Came b m n old.params old.keys one two) here came) (subst (λ n. WholeStands b m n old) here was))

  pub tick-lane : LaneFits b new → LaneStands b (era_with e Tick) new
  unfolding many
  tick-lane fits = record {
    fits = fits;
    params = λ words has.
        subst (λ n. ParamsStand b words n new.params) (sym longer)
        (ticks.params words many (has (suc many) (omega (arith, longer)) ∙ ap (λ (z : Moment). z.words) (moment_begun e))
        (stands.params words (λ i le. has i (omega (arith, longer)) ∙ ap (λ (z : Moment). z.words) (moment_tick e i le))));
    keys = λ strokes has.
        subst (λ n. KeysStand strokes n new.keys) (sym longer)
        (ticks.keys strokes many (has (suc many) (omega (arith, longer)) ∙ ap (λ (z : Moment). z.strokes) (moment_begun e))
        (stands.keys strokes (λ i le. has i (omega (arith, longer)) ∙ ap (λ (z : Moment). z.strokes) (moment_tick e i le))));
    whole = tick-whole;
  }

  pub tick-visits : ((m : ℕ → Moment) → Came b m old.moments old.params old.keys one two → WholeStands b m old.moments old
      → new.terms.cells.visits ≡ min (old.terms.cells.visits + visits b m old.moments) (2 ^ 64 - 1))
      → new.terms.cells.visits ≡ min (old.terms.cells.visits + visits b (moment_of (era_with e Tick)) (length e.moments)) (2 ^ 64 - 1)
  unfolding many
  tick-visits told =
      let m = moment_of (era_with e Tick) in
      let was : WholeStands b m (length e.moments) old = stands.whole m (λ i lt. all-same m (λ j below. refl) i (omega arith)) in
      let here : length e.moments ≡ old.moments = sym was.counted in
      subst (λ n. new.terms.cells.visits ≡ min (old.terms.cells.visits + visits b m n) (2 ^ 64 - 1)) (sym here)
      (told m (subst (λ n. Came b m n old.params old.keys one two) here (came m (λ j below. refl))) (subst (λ n. WholeStands b m n old) here was))
