-- One moment more of what the crew's actions make of an alert, by what is known of the moment before.
use Rattle.std.proofs.Common.{◌≡◌, ℕ, suc, Bool, true, false, not, ◌&&◌, ◌||◌, List, [], ◌∷◌, refl, sym, ◌∙◌}
use Rattle.std.specs.Prelude.{is_some}
use Rattle.ecam_spec.specs.Past.{previous}
use Rattle.ecam_spec.specs.Places.{first_in}
use Rattle.ecam_spec.specs.Crew.{Cockpit, target, is_alert, struck, cleared, long_recall, cancelled, recalled, is_shown, shown, shows_nothing}
use Rattle.ecam_spec.proofs.CrewLaws.{cleared-now, recalled-now}
use Rattle.ecam_spec.proofs.CrewSteps.{cancelled-now}
use Rattle.crew_marks.specs.declared.mark.Mark.{Mark}
use Rattle.crew_marks.specs.declared.mark.Sight.{Sight}
use Rattle.crew_marks.specs.declared.mark.Actions.{Actions}
use Rattle.crew_marks.specs.MarkStep.{mark_after}
use Rattle.crew_marks.specs.MarksState.{MarkStands, SeesActions}

-- something is shown where there is a target in the next moment
module _ (c : Cockpit) where
  pub target-some : (k : ℕ) → is_some (target (shown c) (suc k)) ≡ not (shows_nothing c k)
  unfolding target
  target-some k = of-list (shown c k) where
    of-list : (xs : List ℕ) → is_some (first_in xs) ≡ not (elim xs [ [] ↦ true | _ ∷ _ ↦ false ])
    of-list [] = refl
    of-list (x ∷ xs) = refl

-- ---- an alert's mark

-- the alert stands as moment k says
pub record SeesAlert (c : Cockpit) (a k : ℕ) (s : Sight) : Type 0 where
  pub up : s.up ≡ c.up a k
  pub waiting : s.waiting ≡ c.waiting a k
  pub is_caution : s.is_caution ≡ c.is_caution a
  pub is_target : s.is_target ≡ is_alert a (target (shown c) k)

clear-shape : (u s r w : Bool) → (u && (s || (w && not r))) ≡ ((s && u) || ((u && not r) && w))
clear-shape true true r w = refl
clear-shape true false true true = refl
clear-shape true false true false = refl
clear-shape true false false true = refl
clear-shape true false false false = refl
clear-shape false true r w = refl
clear-shape false false r w = refl

cancel-shape : (i p l w : Bool) → (i && (p || (w && not l))) ≡ (i && (p || (not l && w)))
cancel-shape i p true true = refl
cancel-shape i p true false = refl
cancel-shape i p false true = refl
cancel-shape i p false false = refl

recall-shape : (w s r p : Bool) → (w && (not s && (r || p))) ≡ ((r && (w && not s)) || ((w && not s) && p))
recall-shape true true true p = refl
recall-shape true true false p = refl
recall-shape true false true p = refl
recall-shape true false false p = refl
recall-shape false s true p = refl
recall-shape false s false p = refl

module _ (c : Cockpit) (a k : ℕ) (m : Mark) (s : Sight) (x : Actions) (sees : SeesAlert c a k s) (acts : SeesActions c k x) (stands : MarkStands c a k m) where
  cleared-is : (mark_after m s x).cleared ≡ cleared c (shown c) a k
  unfolding struck
  cleared-is =
      rw (sees.up, sees.is_target, acts.clr, acts.rcl, stands.cleared)
      (clear-shape (c.up a k) (c.clr k && is_alert a (target (shown c) k)) (c.rcl k) (previous (cleared c (shown c) a) k) ∙ sym (cleared-now c (shown c) a k))

  cancelled-is : (mark_after m s x).cancelled ≡ cancelled c (shown c) a k
  cancelled-is =
      rw (sees.is_caution, sees.is_target, acts.emer, acts.restores, stands.cancelled)
      (cancel-shape (c.is_caution a) (c.emer k && is_alert a (target (shown c) k)) (long_recall c k || c.enters_one k) (previous (cancelled c (shown c) a) k) ∙ sym (cancelled-now c (shown c) a k))

  recalled-is : (mark_after m s x).recalled ≡ recalled c (shown c) a k
  unfolding struck
  recalled-is =
      rw (sees.waiting, sees.is_target, acts.clr, acts.rcl, stands.recalled)
      (recall-shape (c.waiting a k) (c.clr k && is_alert a (target (shown c) k)) (c.rcl k) (previous (recalled c (shown c) a) k) ∙ sym (recalled-now c (shown c) a k))

  shown-is : (mark_after m s x).shown ≡ is_shown c (shown c) a k
  unfolding is_shown
  shown-is =
      let one : s.up ≡ c.up a k = sees.up in
      let two = cleared-is in
      let three = cancelled-is in
      let four = recalled-is in
      cc

  pub mark-stands : MarkStands c a (suc k) (mark_after m s x)
  unfolding previous
  mark-stands = record { cleared = cleared-is; cancelled = cancelled-is; recalled = recalled-is; shown = shown-is }
