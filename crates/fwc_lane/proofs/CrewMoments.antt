-- What the alerts and the keys of a moment are for the marks, for the lights with the sound, and for the selection.
use Rattle.std.proofs.Common.{◌≡◌, ℕ, zero, suc, ◌<◌, ◌≤◌, Bool, true, false, not, ◌&&◌, List, length, get_or, filter, refl, sym, ap, subst, ◌∙◌, arith, eqb, ltb, inl, inr}
use Rattle.std.specs.List.{list_any}
use Rattle.std.proofs.lemmas.Bool.{cases_lt, lt-ltb, eqb-true}
use Rattle.std.proofs.lemmas.Map.Views.{any-filter_same}
use Rattle.std.proofs.lemmas.List.{get_or_past}
use Rattle.ecam_spec.specs.declared.kinds.Key.TheVariants.{Clr, Rcl, Emer, Mw, Mc}
use Rattle.ecam_spec.specs.Past.{previous, historically_within}
use Rattle.ecam_spec.specs.Alert as alert
use Rattle.ecam_spec.specs.Book.{Book, Alert}
use Rattle.ecam_spec.specs.Term.{holds}
use Rattle.ecam_spec.specs.History.{Moment}
use Rattle.ecam_spec.specs.Situation as situation
use Rattle.ecam_spec.specs.Situation.{no_alert, alert_at, strokes_in, phase_in, condition_in, present_in, active_in, waiting_in, starred_in, up_in, alert_world, known_below}
use Rattle.ecam_spec.specs.Crew as crew
use Rattle.ecam_spec.specs.Screen.{order, cockpit, attention, shown_in, is_shown_in, cancelled_in, target_in, enters_one}
use Rattle.ecam_spec.proofs.PastLaws.{since-implies, historically_within-now}
use Rattle.ecam_spec.proofs.CrewSteps.{shown-flags}
use Rattle.ecam_kinds.specs.declared.keys.Keys.{Keys}
use Rattle.ecam_kinds.specs.KeyState.{KeysStand}
use Rattle.alert_truth.specs.Alerts.{Tells, waiting, up}
use Rattle.alert_truth.specs.TruthsState.{Unchanged, StaysAt}
use Rattle.attention.specs.Calling.{is_shown}
use Rattle.attention.specs.State as lighted
use Rattle.attention.specs.State.{AreOfBook, Brings}
use Rattle.crew_marks.specs.CrewMarks.{CrewMarks}
use Rattle.crew_marks.specs.declared.mark.Mark.{Mark}
use Rattle.crew_marks.specs.MarkSets.{MarkSets, mark_at}
use Rattle.crew_marks.specs.MarksState as crewed
use Rattle.crew_marks.specs.MarksState.{IsCrewOf, SeesCrew, MarksStand}
use Rattle.fwc_lane.specs.CrewStands.{IsShownAsBefore, IsUpAsBefore}
use Rattle.fwc_lane.proofs.Showing.{waiting-is, up-is}
use Rattle.fwc_lane.proofs.FlagSteps.{left-true}

module _ (b : Book) (m : ℕ → Moment) where
  pub crew-of : IsCrewOf b (cockpit b m)
  unfolding cockpit
  crew-of = record { order = refl; is_caution = λ a. refl }

  pub attention-of : AreOfBook b (attention b m)
  unfolding attention
  attention-of = record { level = λ i. refl; sound = λ i. refl }

  -- what the marks tell of the last moment
  module _ (k : ℕ) (marks : CrewMarks) (stands : MarksStand b (cockpit b m) (suc k) marks) where
    pub shown-told : (a : ℕ) → a < length b.alerts → get_or marks.sets.shown a false ≡ is_shown_in b m a k
    unfolding is_shown_in shown_in previous
    shown-told a lt = (stands.marks a lt).shown

    pub cancelled-told : (a : ℕ) → a < length b.alerts → get_or marks.sets.cancelled a false ≡ cancelled_in b m a k
    unfolding cancelled_in shown_in previous
    cancelled-told a lt = (stands.marks a lt).cancelled

    pub target-told : marks.target ≡ target_in b m k
    unfolding target_in shown_in
    target-told = stands.target

    pub first-told : marks.first ≡ crew.target (shown_in b m) (suc k)
    unfolding shown_in
    first-told = stands.first

  module _ (k : ℕ) (keys : Keys) (strokes : KeysStand (strokes_in b m) k keys) (ups : List Bool) (up-told : Tells (length b.alerts) ups (up b (condition_in b m) (phase_in b m)) (suc k)) where
    pub sees-crew : (waits : List Bool) (enters : Bool) → Tells (length b.alerts) waits (waiting b (condition_in b m) (phase_in b m)) (suc k)
        → length ups ≡ length b.alerts → length waits ≡ length b.alerts → enters ≡ enters_one b m k → SeesCrew (cockpit b m) k ups waits keys enters
    unfolding cockpit previous
    sees-crew waits enters wait-told ups-long waits-long is = record {
      up = λ a lt. up-told a (omega arith) ∙ up-is b m a k;
      waiting = λ a lt. wait-told a (omega arith) ∙ waiting-is b m a k;
      clr = strokes.pressed Clr tt;
      rcl = strokes.pressed Rcl tt;
      emer = strokes.pressed Emer tt;
      rcl_held = strokes.held Rcl tt;
      enters_one = is;
    }

    pub brings : (marks : CrewMarks) → MarksStand b (cockpit b m) (suc k) marks → (shown : List Bool) → shown ≡ marks.sets.shown → Brings b (attention b m) k ups shown keys
    unfolding attention previous
    brings marks stands shown is = record {
      up = λ i lt. up-told i lt ∙ up-is b m i k;
      shown = shown-flags b m (λ a. get_or shown a false) k (λ a lt. ap (λ xs. get_or xs a false) is ∙ shown-told k marks stands a lt);
      mw = strokes.pressed Mw tt;
      mc = strokes.pressed Mc tt;
      emer = strokes.pressed Emer tt;
    }

-- ---- what is as in the moment before

-- what isn't in the book is no alert, and never up
module _ (b : Book) (m : ℕ → Moment) (i : ℕ) (past : length b.alerts ≤ i) where
  never-holds : (k : ℕ) → condition_in b m i k ≡ false
  unfolding condition_in situation.condition holds
  never-holds k = ap (λ (a : Alert). holds (alert_world b m (known_below b m i)) a.when k) (get_or_past b.alerts i no_alert past)

  only-where : (k : ℕ) → active_in b m i k ≡ true → condition_in b m i k ≡ true
  unfolding active_in situation.active_knowing situation.present_knowing condition_in alert.active alert.present
  only-where k =
      since-implies (λ j. historically_within (alert_at b i).confirm (situation.condition b m (known_below b m i) i) j && not (situation.inhibited b m i j))
      (historically_within (alert_at b i).confirm (situation.condition b m (known_below b m i) i))
      (situation.condition b m (known_below b m i) i k) k
      (λ h. historically_within-now (alert_at b i).confirm (situation.condition b m (known_below b m i) i) k (left-true _ _ h))
      (historically_within-now (alert_at b i).confirm (situation.condition b m (known_below b m i) i) k)

  never-active : (k : ℕ) (on : Bool) → active_in b m i k ≡ on → on ≡ false
  never-active k false e = refl
  never-active k true e = sym (only-where k e) ∙ never-holds k

  never-up : (k : ℕ) → up_in b m i k ≡ false
  unfolding up_in alert.up
  never-up k = ap (λ a. a && not (starred_in b m i k)) (never-active k (active_in b m i k) refl)

module _ (b : Book) (m : ℕ → Moment) (k : ℕ) (same : Unchanged b (condition_in b m) (phase_in b m) k) where
  pub still-crew : crewed.AreStill b (cockpit b m) k
  unfolding cockpit up_in waiting_in present_in starred_in active_in situation.active_knowing situation.present_knowing situation.inhibited condition_in
  still-crew = record { up = same.up; waiting = same.waiting }

  pub up-before : (j : ℕ) → k ≡ suc j → (i : ℕ) → i < length b.alerts → up_in b m i k ≡ up_in b m i j
  unfolding previous up_in waiting_in present_in starred_in active_in situation.active_knowing situation.present_knowing situation.inhibited condition_in
  up-before j e i lt = same.up i lt ∙ ap (previous (up_in b m i)) e

  pub still-lights : IsShownAsBefore b m k → lighted.AreStill (attention b m) k
  unfolding attention
  still-lights shows = record {
    up = λ j e i. elim (cases_lt i (length b.alerts)) [ inl lt ↦ up-before j e i lt | inr past ↦ never-up b m i past k ∙ sym (never-up b m i past j) ];
    shown = shows;
  }

-- an alert that doesn't turn
module _ (b : Book) (m : ℕ → Moment) (k a : ℕ) (stays : StaysAt b (condition_in b m) (phase_in b m) k a) where
  pub still-alert : crewed.IsStill (cockpit b m) k a
  unfolding cockpit up_in waiting_in present_in starred_in active_in situation.active_knowing situation.present_knowing situation.inhibited condition_in
  still-alert = record { up = stays.up; waiting = stays.waiting }

  pub up-stayed : IsUpAsBefore b m k a
  unfolding previous up_in waiting_in present_in starred_in active_in situation.active_knowing situation.present_knowing situation.inhibited condition_in
  up-stayed j e = stays.up ∙ ap (previous (up_in b m a)) e

-- one whose mark didn't turn
module _ (b : Book) (m : ℕ → Moment) (k a : ℕ) where
  -- it is among those that are shown where its flag is set
  among : (flags : List Bool) (j : ℕ) → ((x : ℕ) → x < length b.alerts → get_or flags x false ≡ is_shown_in b m x j)
      → is_shown (attention b m) j a ≡ (get_or flags a false && list_any (λ x. eqb x a) (order b))
  unfolding attention
  among flags j told =
      ap (list_any (λ x. eqb x a)) (shown-flags b m (λ x. get_or flags x false) j told)
      ∙ any-filter_same (λ x. eqb x a) (λ x. get_or flags x false) (get_or flags a false) (λ x e. ap (λ y. get_or flags y false) (eqb-true x a e)) (order b)

  pub stays-lit : (old new : CrewMarks) → MarksStand b (cockpit b m) k old → MarksStand b (cockpit b m) (suc k) new → mark_at new.sets a ≡ mark_at old.sets a
      → IsUpAsBefore b m k a → lighted.StaysAt (attention b m) k a
  unfolding attention
  stays-lit old new before after same ups = record {
    up = ups;
    shown = λ j e.
        among new.sets.shown k (shown-told b m k new after)
        ∙ ap (λ (x : Mark). x.shown && list_any (λ y. eqb y a) (order b)) same
        ∙ sym (among old.sets.shown j (shown-told b m j old (subst (λ n. MarksStand b (cockpit b m) n old) e before)));
  }

-- where no mark changed, what is shown is as it was
pub shown-kept : (b : Book) (m : ℕ → Moment) (k : ℕ) (old new : CrewMarks) → MarksStand b (cockpit b m) k old → MarksStand b (cockpit b m) (suc k) new → new.sets ≡ old.sets → IsShownAsBefore b m k
shown-kept b m k old new before after same = λ j e.
    shown-flags b m (λ a. get_or new.sets.shown a false) k (shown-told b m k new after)
    ∙ ap (λ (s : MarkSets). filter (λ a. get_or s.shown a false) (order b)) same
    ∙ sym (shown-flags b m (λ a. get_or old.sets.shown a false) j (shown-told b m j old (subst (λ n. MarksStand b (cockpit b m) n old) e before)))

pub enters-is : (b : Book) (m : ℕ → Moment) (k was phase : ℕ) (ticked : Bool) → ticked ≡ ltb 0 k → phase ≡ phase_in b m k → ((j : ℕ) → k ≡ suc j → was ≡ phase_in b m j)
    → (eqb phase 1 && (ticked && not (eqb was 1))) ≡ enters_one b m k
unfolding enters_one previous
enters-is b m zero was phase ticked first now before = ap (λ p. eqb p 1 && (ticked && not (eqb was 1))) now ∙ ap (λ t. eqb (phase_in b m 0) 1 && (t && not (eqb was 1))) first
enters-is b m (suc j) was phase ticked first now before =
    ap (λ p. eqb p 1 && (ticked && not (eqb was 1))) now
    ∙ ap (λ t. eqb (phase_in b m (suc j)) 1 && (t && not (eqb was 1))) first
    ∙ ap (λ t. eqb (phase_in b m (suc j)) 1 && (t && not (eqb was 1))) (lt-ltb 0 (suc j) (omega arith))
    ∙ ap (λ p. eqb (phase_in b m (suc j)) 1 && not (eqb p 1)) (before j refl)
