-- A moment in which nothing acts, and each alert is up and waits as in the moment before.
use Rattle.std.proofs.Common.{◌≡◌, ℕ, suc, ◌+◌, ◌-◌, ◌<◌, Bool, true, false, ◌||◌, length, Option, Some, None, leb, cond, refl, sym, ◌∙◌, ap, subst, arith, add-one}
use Rattle.std.specs.Prelude.{is_some, is_none}
use Rattle.std.specs.List.{find}
use Rattle.std.specs.Option.{option_map_or}
use Rattle.std.proofs.lemmas.Bool.{leb-false, lt-leb}
use Rattle.ecam_spec.specs.Past.{Signal, previously, last_since}
use Rattle.ecam_spec.specs.Book.{Book}
use Rattle.ecam_spec.specs.Screen.{order}
use Rattle.ecam_spec.specs.Crew.{Cockpit, target, is_alert, long_recall, shown, shows_nothing}
use Rattle.ecam_spec.proofs.PastRuns.{historically_within-running}
use Rattle.crew_marks.specs.declared.walk.Walked.{Walked}
use Rattle.crew_marks.specs.declared.mark.Sight.{Sight}
use Rattle.crew_marks.specs.declared.mark.Actions.{Actions}
use Rattle.crew_marks.specs.MarkStep.{acts}
use Rattle.crew_marks.specs.MarkSets.{MarkSets, mark_at}
use Rattle.crew_marks.specs.CrewMarks.{CrewMarks, EndsMoment, is_shown, stands_normal}
use Rattle.crew_marks.specs.MarksState.{IsCrewOf, AreStill, NothingActs, MarksFit, MarkStands, MarksStand}
use Rattle.crew_marks.proofs.Stretches.{running-now}
use Rattle.crew_marks.proofs.Crews.{mark-stands}
use Rattle.crew_marks.proofs.Stepping.{first-ahead, quiet-ahead}
use Rattle.crew_marks.proofs.Resting.{mark-rests}
use Rattle.crew_marks.proofs.Ending.{some-not, rested-fits}

-- RCL isn't held, so that no recall is a long one
no-recall : (c : Cockpit) (k : ℕ) → c.rcl_held k ≡ false → long_recall c k ≡ false
unfolding long_recall
no-recall c k off =
    historically_within-running 29 c.rcl_held k
    ∙ ap (λ o. option_map_or (λ s. leb 29 (k - s)) o false) (running-now c.rcl_held k false (sym off))

module _ (b : Book) (c : Cockpit) (k : ℕ) (old new : CrewMarks) (of_book : IsCrewOf b c) (nothing : NothingActs c k) (still : AreStill b c k) (stands : MarksStand b c k old)
    (same : new.sets ≡ old.sets) where
  abbrev here : ℕ → Sight
  here a = record { up = c.up a k; waiting = c.waiting a k; is_caution = c.is_caution a; is_target = is_alert a (target (shown c) k) }

  abbrev doing : Actions
  doing = record { clr = c.clr k; rcl = c.rcl k; emer = c.emer k; restores = long_recall c k || c.enters_one k }

  none : acts doing ≡ false
  none = rw (nothing.clr, nothing.rcl, nothing.emer, no-recall c k nothing.rcl_held, nothing.enters_one) refl

  alert-stands : (a : ℕ) → a < length b.alerts → MarkStands c a (suc k) (mark_at new.sets a)
  alert-stands a within =
      let was = stands.marks a within in
      let rests = mark-rests c a k (mark_at old.sets a) (here a) doing (record { up = still.up a within; waiting = still.waiting a within; is_caution = refl }) none was in
      let next = mark-stands c a k (mark_at old.sets a) (here a) doing (record { up = refl; waiting = refl; is_caution = refl; is_target = refl }) (record { clr = refl; rcl = refl; emer = refl; restores = refl }) was in
      subst (λ (s : MarkSets). MarkStands c a (suc k) (mark_at s a)) (sym same) (subst (MarkStands c a (suc k)) rests next)

  module _ (fits : MarksFit b old) (found : Walked) (finds : found.first ≡ old.first) (ended : EndsMoment found None old new)
      (presses : (p q : Signal) (k : ℕ) → old.moments ≡ k → false ≡ p k → is_none found.first ≡ q k → old.quiet_press ≡ previously (last_since p q) k → new.quiet_press ≡ previously (last_since p q) (suc k)) where
    shown-first : new.first ≡ find (is_shown new) (order b)
    shown-first = (rested-fits b old new fits same (ended.first ∙ finds) ended.target).first

    pub rested-stands : MarksStand b c (suc k) new
    rested-stands = record {
      moments = ended.moments ∙ ap (λ n. n + 1) stands.moments ∙ add-one k;
      marks = alert-stands;
      target = ended.target ∙ stands.first;
      first = first-ahead b c k new of_book alert-stands shown-first;
      held_since = ended.held_since ∙ sym (running-now c.rcl_held k false (sym nothing.rcl_held));
      quiet_press =
          presses c.rcl (shows_nothing c) k stands.moments (sym nothing.rcl)
          (quiet-ahead b c k new of_book alert-stands shown-first (is_none found.first) (ap is_some ended.first ∙ some-not found.first))
          stands.quiet_press;
    }

-- ---- NORMAL

later-off : (n j : ℕ) → leb (n - j) 30 ≡ false → leb (n + 1 - j) 30 ≡ false
later-off n j off = lt-leb (n + 1 - j) 30 (let past = leb-false (n - j) 30 off in omega (arith, past))

-- it doesn't begin where RCL isn't pressed
pub normal-rests : (quiet : Bool) (was : Option ℕ) (n : ℕ) → stands_normal was n ≡ false → stands_normal (cond quiet was None) (n + 1) ≡ false
normal-rests false was n off = refl
normal-rests true None n off = refl
normal-rests true (Some j) n off = later-off n j off
