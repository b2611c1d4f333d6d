-- The end of a moment, in which the marks became what they are.
use Rattle.std.proofs.Common.{◌≡◌, ℕ, suc, ◌+◌, ◌<◌, Bool, true, false, not, ◌||◌, List, length, get_or, Option, Some, None, refl, sym, ap, subst, ◌∙◌, arith}
use Rattle.std.specs.Prelude.{◌↔◌, is_some, is_none}
use Rattle.std.specs.Option.{IfSome}
use Rattle.std.specs.List.{find}
use Rattle.ecam_spec.specs.Past.{Signal, previously, historically_within, running_since, last_since}
use Rattle.ecam_spec.specs.Book.{Book}
use Rattle.ecam_spec.specs.Screen.{order}
use Rattle.ecam_spec.specs.Crew.{Cockpit, long_recall, shows_nothing}
use Rattle.ecam_kinds.specs.declared.keys.Keys.{Keys}
use Rattle.wakes.specs.Marks as numbers
use Rattle.crew_marks.specs.declared.walk.Walked.{Walked}
use Rattle.crew_marks.specs.declared.mark.Actions.{Actions}
use Rattle.crew_marks.specs.MarkStep.{mark_after, sight_of, acts}
use Rattle.crew_marks.specs.MarkSets.{MarkSets, mark_at, AreMany}
use Rattle.crew_marks.specs.CrewMarks.{CrewMarks, EndsMoment}
use Rattle.crew_marks.specs.MarksState.{IsCrewOf, SeesCrew, SeesActions, IsStill, AreStill, MarksFit, MarksStand, WalksMoment}
use Rattle.crew_marks.specs.Looked.{StepsLooked, StepsAll}
use Rattle.crew_marks.proofs.Stepping.{first-fits, stepped-fits, stepped-stands, quiet-now}
use Rattle.crew_marks.proofs.Resting.{mark-rests}

pub held-long : (c : Cockpit) (k : ℕ) (ends enters : Bool) → ends ≡ (historically_within 29 c.rcl_held k || enters) → enters ≡ c.enters_one k → ends ≡ (long_recall c k || c.enters_one k)
unfolding long_recall
held-long c k ends enters is same = is ∙ ap (λ b. historically_within 29 c.rcl_held k || b) same

pub some-not : (o : Option ℕ) → is_some o ≡ not (is_none o)
some-not None = refl
some-not (Some x) = refl

module _ (b : Book) (c : Cockpit) (k : ℕ) (ups waits : List Bool) (keys : Keys) (enters : Bool) (x : Actions) (old mid new : CrewMarks)
    (of_book : IsCrewOf b c) (sees : SeesCrew c k ups waits keys enters) (up_long : length ups ≡ length b.alerts) (waits_long : length waits ≡ length b.alerts)
    (does : SeesActions c k x) (stands : MarksStand b c k old) (marks : StepsAll b ups waits old.first x old.sets new.sets) (fits : MarksFit b new)
    (found : Walked) (held : Option ℕ) (ended : EndsMoment found held mid new) (first : mid.first ≡ old.first) (moments : mid.moments ≡ old.moments) (press : mid.quiet_press ≡ old.quiet_press)
    (is_held : held ≡ running_since c.rcl_held (suc k))
    (presses : (p q : Signal) (k : ℕ) → mid.moments ≡ k → x.rcl ≡ p k → is_none found.first ≡ q k → mid.quiet_press ≡ previously (last_since p q) k → new.quiet_press ≡ previously (last_since p q) (suc k)) where
  pub ended-stands : MarksStand b c (suc k) new
  ended-stands =
      let quiet = quiet-now b c k ups waits keys enters x old new of_book sees up_long waits_long does stands marks fits (is_none found.first) (ap is_some ended.first ∙ some-not found.first) in
      stepped-stands b c k ups waits keys enters x old new of_book sees up_long waits_long does stands marks fits
      (ended.moments ∙ ap (λ n. n + 1) moments) (ended.target ∙ first) (ended.held_since ∙ is_held)
      (presses c.rcl (shows_nothing c) k (moments ∙ stands.moments) does.rcl quiet (press ∙ stands.quiet_press))

-- the same after a walk over those that are looked at
module _ (b : Book) (ups waits : List Bool) (x : Actions) (old inside mid new : CrewMarks) (fits : MarksFit b old)
    (up_long : length ups ≡ length b.alerts) (waits_long : length waits ≡ length b.alerts) (same : inside ≡ old) (sets : MarkSets) (keeps : mid ≡ record inside { sets = sets })
    (found : Walked) (held : Option ℕ) (steps : StepsLooked b ups waits inside.looked inside.first x inside.sets sets) (many : AreMany sets (length b.alerts))
    (first : found.first ≡ find (λ a. get_or sets.shown a false) (order b)) (changed : (found.changed ≡ false) ↔ (sets ≡ inside.sets)) (ended : EndsMoment found held mid new)
    (presses : (p q : Signal) (k : ℕ) → mid.moments ≡ k → x.rcl ≡ p k → is_none found.first ≡ q k → mid.quiet_press ≡ previously (last_since p q) k → new.quiet_press ≡ previously (last_since p q) (suc k)) where
  now-sets : new.sets ≡ sets
  now-sets = ended.sets ∙ ap (λ (m : CrewMarks). m.sets) keeps

  now-first : mid.first ≡ old.first
  now-first = ap (λ (m : CrewMarks). m.first) keeps ∙ ap (λ (m : CrewMarks). m.first) same

  now-moments : mid.moments ≡ old.moments
  now-moments = ap (λ (m : CrewMarks). m.moments) keeps ∙ ap (λ (m : CrewMarks). m.moments) same

  now-steps : StepsLooked b ups waits old.looked old.first x old.sets new.sets
  now-steps =
      subst (λ (m : CrewMarks). StepsLooked b ups waits m.looked m.first x m.sets new.sets) same
      (subst (λ s. StepsLooked b ups waits inside.looked inside.first x inside.sets s) (sym now-sets) steps)

  now-fits : MarksFit b new
  now-fits =
      stepped-fits b ups waits old.looked x old new fits (subst (λ (s : MarkSets). AreMany s (length b.alerts)) (sym now-sets) many) now-steps
      (ended.target ∙ now-first) (ended.first ∙ first ∙ ap (λ (s : MarkSets). find (λ a. get_or s.shown a false) (order b)) (sym now-sets))

  pub walked-ends : WalksMoment b ups waits x held old new
  walked-ends = record {
    fits = now-fits;
    moments = ended.moments ∙ ap (λ n. n + 1) now-moments;
    looked = ended.looked ∙ ap (λ (m : CrewMarks). m.looked) keeps ∙ ap (λ (m : CrewMarks). m.looked) same;
    steps = now-steps;
    changed = (
      λ e. now-sets ∙ changed.0 (sym ended.changed ∙ e) ∙ ap (λ (m : CrewMarks). m.sets) same,
      λ e. ended.changed ∙ changed.1 (sym now-sets ∙ e ∙ ap (λ (m : CrewMarks). m.sets) (sym same)),
    );
    stands =
        λ c k keys enters of_book sees does held_is all stands.
        ended-stands b c k ups waits keys enters x old mid new of_book sees up_long waits_long does stands all now-fits
        found held ended now-first now-moments (ap (λ (m : CrewMarks). m.quiet_press) keeps ∙ ap (λ (m : CrewMarks). m.quiet_press) same) held_is presses;
  }

-- where the marks and the first that is shown stay, and the target becomes that
pub rested-fits : (b : Book) (old new : CrewMarks) → MarksFit b old → new.sets ≡ old.sets → new.first ≡ old.first → new.target ≡ old.first → MarksFit b new
rested-fits b old new fits same first aims = record {
  many = subst (λ (s : MarkSets). AreMany s (length b.alerts)) (sym same) fits.many;
  ordered = ap (λ (s : MarkSets). s.order) same ∙ fits.ordered;
  target = subst (λ o. IfSome o (λ a. a < length b.alerts)) (sym aims) (first-fits b old fits);
  first = first ∙ fits.first ∙ ap (λ (s : MarkSets). find (λ a. get_or s.shown a false) (order b)) (sym same);
  hidden =
      λ a cleared recalled.
      ap (λ (s : MarkSets). get_or s.shown a false) same
      ∙ fits.hidden a (ap (λ (s : MarkSets). get_or s.cleared a false) (sym same) ∙ cleared) (ap (λ (s : MarkSets). get_or s.recalled a false) (sym same) ∙ recalled);
}

-- ---- where an alert is up and waits as in the moment before, and the crew does nothing

module _ (b : Book) (ups waits : List Bool) (x : Actions) (old : CrewMarks) (sets : MarkSets) (quiet : acts x ≡ false)
    (c : Cockpit) (k : ℕ) (keys : Keys) (enters : Bool) (of_book : IsCrewOf b c) (sees : SeesCrew c k ups waits keys enters)
    (up_long : length ups ≡ length b.alerts) (waits_long : length waits ≡ length b.alerts) (stands : MarksStand b c k old) where
  alert-rests : (a : ℕ) → a < length b.alerts → IsStill c k a
      → mark_at old.sets a ≡ mark_after (mark_at old.sets a) (sight_of b ups waits old.first a) x
  alert-rests a within still =
      sym (mark-rests c a k (mark_at old.sets a) (sight_of b ups waits old.first a) x
      (record {
        up = sees.up a (omega (arith, up_long, within)) ∙ still.up;
        waiting = sees.waiting a (omega (arith, waits_long, within)) ∙ still.waiting;
        is_caution = sym (of_book.is_caution a);
      })
      quiet (stands.marks a within))

  -- where each is, all stays as it is
  pub still-steps : sets ≡ old.sets → AreStill b c k → StepsAll b ups waits old.first x old.sets sets
  still-steps same still a within =
      ap (λ (s : MarkSets). mark_at s a) same
      ∙ alert-rests a within (record { up = still.up a within; waiting = still.waiting a within })

  -- where each is that isn't looked at, each mark is stepped
  pub turned-steps : (set : List ℕ) → StepsLooked b ups waits set old.first x old.sets sets
      → ((a : ℕ) → a < length b.alerts → numbers.is_marked set a ≡ false → IsStill c k a)
      → StepsAll b ups waits old.first x old.sets sets
  turned-steps set steps still a within =
      elim (numbers.is_marked set a) as (λ t. numbers.is_marked set a ≡ t → mark_at sets a ≡ mark_after (mark_at old.sets a) (sight_of b ups waits old.first a) x)
      [ true ↦ λ on. steps.marks a within on | false ↦ λ off. steps.kept a off ∙ alert-rests a within (still a within off) ] refl

-- ---- where others are looked at

pub with-looked-fits : (b : Book) (m : CrewMarks) (set : List ℕ) → MarksFit b m → MarksFit b (record m { looked = set })
with-looked-fits b m set fits = record { many = fits.many; ordered = fits.ordered; target = fits.target; first = fits.first; hidden = fits.hidden }

pub with-looked-stands : (b : Book) (c : Cockpit) (k : ℕ) (m : CrewMarks) (set : List ℕ) → MarksStand b c k m → MarksStand b c k (record m { looked = set })
with-looked-stands b c k m set stands = record {
  moments = stands.moments;
  marks = stands.marks;
  target = stands.target;
  first = stands.first;
  held_since = stands.held_since;
  quiet_press = stands.quiet_press;
}
