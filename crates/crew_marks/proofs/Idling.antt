-- An idle alert stays as it is, whatever the crew does.
use Rattle.std.proofs.Common.{◌≡◌, ℕ, Bool, true, false, ◌==◌, List, Option, Some, None, get_or, refl, sym, ap, subst, ◌∙◌}
use Rattle.std.specs.Option.{IfSome}
use Rattle.std.specs.List.{find}
use Rattle.std.proofs.lemmas.Bool.{eqb-true, false≢true, or_parts}
use Rattle.std.proofs.Math.Bool.{and-false}
use Rattle.ecam_spec.specs.Levels.{is_caution_level}
use Rattle.ecam_spec.specs.Book.{Book}
use Rattle.ecam_spec.specs.Crew.{is_alert}
use Rattle.ecam_spec.specs.Situation.{alert_at}
use Rattle.ecam_spec.specs.Screen.{order}
use Rattle.wakes.specs.Marks as numbers
use Rattle.crew_marks.specs.declared.mark.Mark.{Mark}
use Rattle.crew_marks.specs.declared.mark.Sight.{Sight}
use Rattle.crew_marks.specs.declared.mark.Actions.{Actions}
use Rattle.crew_marks.specs.MarkSets.{MarkSets, mark_at, is_marked}
use Rattle.crew_marks.specs.MarkStep.{mark_after, sight_of}
use Rattle.crew_marks.specs.Looked.{AreLooked, StepsLooked, StepsAll}
use Rattle.crew_marks.proofs.Orders.{found-passes}

-- nothing is marked
abbrev no_mark : Mark
no_mark = record { cleared = false; cancelled = false; recalled = false; shown = false }

unmarked : (m : Mark) → is_marked m ≡ false → m ≡ no_mark
unmarked m h =
    let one = or_parts m.cleared _ h in
    let two = or_parts m.cancelled _ one.1 in
    let three = or_parts m.recalled m.shown two.1 in
    ap (λ b. mark-of b m.cancelled m.recalled m.shown) one.0 ∙ ap (λ b. mark-of false b m.recalled m.shown) two.0
    ∙ ap (λ b. mark-of false false b m.shown) three.0 ∙ ap (λ b. mark-of false false false b) three.1 where
      mark-of : Bool → Bool → Bool → Bool → Mark
      mark-of cleared cancelled recalled shown = record { cleared = cleared; cancelled = cancelled; recalled = recalled; shown = shown }

-- how an idle alert stands
abbrev idle_sight : Bool → Sight
idle_sight caution = record { up = false; waiting = false; is_caution = caution; is_target = false }

unmarked-after : (caution : Bool) (x : Actions) → mark_after no_mark (idle_sight caution) x ≡ no_mark
unmarked-after false x = refl
unmarked-after true x = rw (and-false x.emer) refl

-- one that isn't shown isn't a target that is
spared : (shown : List Bool) (x : ℕ) (target : Option ℕ) → IfSome target (λ a. get_or shown a false ≡ true) → get_or shown x false ≡ false → is_alert x target ≡ false
spared shown x None h off = refl
spared shown x (Some t) h off =
    elim (x == t) as (λ b. (x == t) ≡ b → b ≡ false)
    [ true ↦ λ e. absurd (false≢true (sym off ∙ ap (λ a. get_or shown a false) (eqb-true x t e) ∙ h)) | false ↦ λ e. refl ] refl

unless : (x m : Bool) → (x ≡ true → m ≡ true) → m ≡ false → x ≡ false
unless true m h off = absurd (false≢true (sym off ∙ h refl))
unless false m h off = refl

-- where those that are up, wait or are marked are looked at, each mark is stepped, since the others stay as they are
module _ (b : Book) (up waiting : List Bool) (s : MarkSets) (set : List ℕ) (target : Option ℕ) (x : Actions)
    (looked : AreLooked s up waiting set) (aims : target ≡ find (λ a. get_or s.shown a false) (order b)) where
  targets : IfSome target (λ t. get_or s.shown t false ≡ true)
  targets =
      subst (λ o. IfSome o (λ t. get_or s.shown t false ≡ true)) (sym aims)
      (found-passes (λ a. get_or s.shown a false) (order b))

  idle-rests : (a : ℕ) → numbers.is_marked set a ≡ false
      → mark_at s a ≡ mark_after (mark_at s a) (sight_of b up waiting target a) x
  idle-rests a off =
      let caution = is_caution_level (alert_at b a).level in
      let none : mark_at s a ≡ no_mark = unmarked (mark_at s a) (unless (is_marked (mark_at s a)) _ (looked.marked a) off) in
      let not_up = unless (get_or up a false) _ (looked.up a) off in
      let not_waiting = unless (get_or waiting a false) _ (looked.waiting a) off in
      let spares = spared s.shown a target targets (ap (λ (m : Mark). m.shown) none) in
      let sight : sight_of b up waiting target a ≡ idle_sight caution = rw (not_up, not_waiting, spares) refl in
      none ∙ sym (unmarked-after caution x) ∙ ap (λ g. mark_after no_mark g x) (sym sight)
      ∙ ap (λ m. mark_after m (sight_of b up waiting target a) x) (sym none)

  pub looked-steps : (new : MarkSets) → StepsLooked b up waiting set target x s new → StepsAll b up waiting target x s new
  looked-steps new steps a within =
      elim (numbers.is_marked set a) as (λ t. numbers.is_marked set a ≡ t → mark_at new a ≡ mark_after (mark_at s a) (sight_of b up waiting target a) x)
      [ true ↦ λ on. steps.marks a within on | false ↦ λ off. steps.kept a off ∙ idle-rests a off ] refl
