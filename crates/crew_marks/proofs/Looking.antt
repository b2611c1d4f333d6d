-- What a walk over those that are looked at makes of all marks.
use Rattle.std.proofs.Common.{◌≡◌, ℕ, suc, ◌<◌, Bool, true, false, List, length, Option, refl, sym, ap, subst, ◌∙◌}
use Rattle.ecam_spec.specs.Past.{running_since}
use Rattle.ecam_spec.specs.Book.{Book}
use Rattle.ecam_spec.specs.Crew.{Cockpit}
use Rattle.ecam_kinds.specs.declared.keys.Keys.{Keys}
use Rattle.wakes.specs.Marks as numbers
use Rattle.crew_marks.specs.declared.mark.Actions.{Actions}
use Rattle.crew_marks.specs.MarkStep.{acts}
use Rattle.crew_marks.specs.Looked.{AreLooked, StepsAll}
use Rattle.crew_marks.specs.CrewMarks.{CrewMarks}
use Rattle.crew_marks.specs.MarksState.{IsCrewOf, SeesCrew, IsStill, MarksFit, MarksStand, SeesActions, WalksMoment}
use Rattle.crew_marks.proofs.Idling.{looked-steps}
use Rattle.crew_marks.proofs.Ending.{turned-steps, with-looked-stands}

module _ (b : Book) (ups waits : List Bool) (x : Actions) (held : Option ℕ) (inside old new : CrewMarks) (set : List ℕ) (same : inside ≡ old) (fits : MarksFit b old)
    (walk : WalksMoment b ups waits x held (record inside { looked = set }) new) where
  here : WalksMoment b ups waits x held (record old { looked = set }) new
  here = subst (λ (m : CrewMarks). WalksMoment b ups waits x held (record m { looked = set }) new) same walk

  -- where those that are up, wait or are marked were taken
  pub all-steps : AreLooked inside.sets ups waits set → StepsAll b ups waits old.first x old.sets new.sets
  all-steps looked =
      looked-steps b ups waits old.sets set old.first x (subst (λ (m : CrewMarks). AreLooked m.sets ups waits set) same looked)
      fits.first new.sets here.steps

  -- the same, where what the crew does is known by another name
  pub all-done : (y : Actions) → x ≡ y → AreLooked inside.sets ups waits set → StepsAll b ups waits old.first y old.sets new.sets
  all-done y is looked = subst (λ z. StepsAll b ups waits old.first z old.sets new.sets) is (all-steps looked)

  module _ (c : Cockpit) (k : ℕ) (keys : Keys) (enters : Bool) (of_book : IsCrewOf b c) (sees : SeesCrew c k ups waits keys enters) (stands : MarksStand b c k old)
      (does : SeesActions c k x × (held ≡ running_since c.rcl_held (suc k))) where
    pub all-stand : StepsAll b ups waits old.first x old.sets new.sets → MarksStand b c (suc k) new
    all-stand all = here.stands c k keys enters of_book sees does.0 does.1 all (with-looked-stands b c k old set stands)

    -- where the crew does nothing, and those that turned were taken
    pub turned-stand : (turned : List ℕ) → length ups ≡ length b.alerts → length waits ≡ length b.alerts
        → (acts x ≡ true → AreLooked inside.sets ups waits set) → (acts x ≡ false → set ≡ turned)
        → ((a : ℕ) → a < length b.alerts → numbers.is_marked turned a ≡ false → IsStill c k a)
        → MarksStand b c (suc k) new
    turned-stand turned up_long waits_long all quiet still =
        elim (acts x) as (λ t. acts x ≡ t → MarksStand b c (suc k) new) [
          | true ↦ λ on. all-stand (all-steps (all on))
          | false ↦
              λ off.
              all-stand
              (turned-steps b ups waits x old new.sets off c k keys enters of_book sees up_long waits_long stands set here.steps
              (λ a within out. still a within (ap (λ s. numbers.is_marked s a) (sym (quiet off)) ∙ out)))
        ] refl
