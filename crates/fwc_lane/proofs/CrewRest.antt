-- A moment in which the crew does nothing, no alert turns and the phase stays.
use Rattle.std.proofs.Common.{◌≡◌, ℕ, zero, suc, ◌+◌, ◌<◌, ◌≤◌, Bool, true, false, not, ◌&&◌, eqb, ltb, length, Some, None, refl, sym, ap, ◌∙◌, arith}
use Rattle.std.specs.Option.{option_or}
use Rattle.ecam_spec.specs.declared.kinds.Key.TheVariants.{Clr, Rcl, Emer, Mw, Mc, Sts, All, Page}
use Rattle.ecam_spec.specs.Places.{first_place}
use Rattle.ecam_spec.specs.Book.{Book}
use Rattle.ecam_spec.specs.History.{Moment}
use Rattle.ecam_spec.specs.Keys.{pressed}
use Rattle.ecam_spec.specs.Situation.{strokes_in, phase_in}
use Rattle.ecam_spec.specs.Screen.{cockpit, attention, panel, target_in, targets_caution}
use Rattle.ecam_kinds.specs.declared.keys.Keys.{Keys}
use Rattle.ecam_kinds.specs.KeyState.{KeysStand, is_held}
use Rattle.ecam_spec.specs.Lamps as lamps
use Rattle.ecam_spec.specs.Past.{previous}
use Rattle.ecam_spec.specs.Crew.{Cockpit, normal}
use Rattle.attention.specs.State as lighted
use Rattle.attention.specs.State.{NothingComes, AttentionStands}
use Rattle.attention.specs.declared.state.Attention.{Attention}
use Rattle.crew_marks.specs.CrewMarks.{CrewMarks, stands_normal}
use Rattle.crew_marks.specs.MarksState.{NothingActs, MarksStand}
use Rattle.crew_marks.proofs.Stretches.{normal-press}
use Rattle.system_display.specs.Panels.{SelectsNothing}
use Rattle.fwc_lane.specs.Strokes.{NonePressed}
use Rattle.fwc_lane.proofs.CrewMoments.{enters-is}

none-first : (p : ℕ → Bool) (n : ℕ) → ((i : ℕ) → i < n → p i ≡ false) → first_place p n ≡ None
unfolding first_place
none-first p zero none = refl
none-first p (suc n) none =
    ap (λ o. option_or o (elim (p n) [ true ↦ Some n | false ↦ None ])) (none-first p n (λ i lt. none i (omega arith)))
    ∙ ap (λ b. option_or None (elim b [ true ↦ Some n | false ↦ None ])) (none n (omega arith))

-- a phase isn't entered where it was
not-entered : (t is : Bool) → (is && (t && not is)) ≡ false
not-entered true true = refl
not-entered true false = refl
not-entered false true = refl
not-entered false false = refl

module _ (b : Book) (m : ℕ → Moment) (k : ℕ) (keys : Keys) (strokes : KeysStand (strokes_in b m) k keys) (none : NonePressed keys) where
  module _ (rcl : is_held keys Rcl ≡ false) (was : ℕ) (ticked : Bool) (first : ticked ≡ ltb 0 k) (stays : was ≡ phase_in b m k) (before : (j : ℕ) → k ≡ suc j → was ≡ phase_in b m j) where
    pub nothing-acts : NothingActs (cockpit b m) k
    unfolding cockpit
    nothing-acts = record {
      clr = sym (strokes.pressed Clr tt) ∙ none Clr tt;
      rcl = sym (strokes.pressed Rcl tt) ∙ none Rcl tt;
      emer = sym (strokes.pressed Emer tt) ∙ none Emer tt;
      rcl_held = sym (strokes.held Rcl tt) ∙ rcl;
      enters_one = sym (enters-is b m k was was ticked first stays before) ∙ not-entered ticked (eqb was 1);
    }

  pub selects-nothing : is_held keys All ≡ false → length b.pages ≤ 16 → SelectsNothing (panel b m) k
  unfolding panel
  selects-nothing all few = record {
    all_held = sym (strokes.held All tt) ∙ all;
    page_called = none-first (λ i. pressed (strokes_in b m) (Page (i + 1)) k) (length b.pages)
        (λ i lt. sym (strokes.pressed (Page (i + 1)) (omega arith, omega arith)) ∙ none (Page (i + 1)) (omega arith, omega arith));
    sts = sym (strokes.pressed Sts tt) ∙ none Sts tt;
    clr = sym (strokes.pressed Clr tt) ∙ none Clr tt;
    cancels = ap (λ c. c && targets_caution b m (target_in b m k)) (sym (strokes.pressed Emer tt) ∙ none Emer tt);
  }

  pub nothing-comes : (h : ℕ) → k ≡ suc h → lighted.AreStill (attention b m) k → NothingComes (attention b m) h
  unfolding attention
  nothing-comes h e still = record {
    up = λ i. ap ((attention b m).up i) (sym e) ∙ still.up h e i;
    shown = ap (attention b m).shown (sym e) ∙ still.shown h e;
    mw = ap (pressed (strokes_in b m) Mw) (sym e) ∙ sym (strokes.pressed Mw tt) ∙ none Mw tt;
    mc = ap (pressed (strokes_in b m) Mc) (sym e) ∙ sym (strokes.pressed Mc tt) ∙ none Mc tt;
    emer = ap (pressed (strokes_in b m) Emer) (sym e) ∙ sym (strokes.pressed Emer tt) ∙ none Emer tt;
  }

-- NORMAL doesn't stand by the marks
pub normal-off : (b : Book) (c : Cockpit) (k : ℕ) (marks : CrewMarks) → MarksStand b c k marks → stands_normal marks.quiet_press marks.moments ≡ false → previous (normal c) k ≡ false
unfolding previous
normal-off b c zero marks stands off = refl
normal-off b c (suc k) marks stands off =
    normal-press c k
    ∙ ap (λ o. stands_normal o (suc k)) (sym stands.quiet_press)
    ∙ ap (stands_normal marks.quiet_press) (sym stands.moments)
    ∙ off

-- the lights and the sound of a moment that isn't the first
pub lights-rest : (b : Book) (a : lamps.Attention) (n : ℕ) (old new : Attention) → ltb 0 n ≡ true → ((h : ℕ) → n ≡ suc h → NothingComes a h)
    → ((h : ℕ) → NothingComes a h → AttentionStands b a (suc h) old → AttentionStands b a (suc (suc h)) new)
    → AttentionStands b a n old → AttentionStands b a (suc n) new
lights-rest b a zero old new on comes passes stands = absurd (let none : ltb 0 0 ≡ false = refl in let w : ⊥ = cc in w)
lights-rest b a (suc h) old new on comes passes stands = passes h (comes h refl) stands
