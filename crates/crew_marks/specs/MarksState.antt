-- When marks stand for what the crew did in the moments so far.
use Rattle.std.specs.Prelude.{◌≡◌, ◌↔◌, ℕ, suc, ◌+◌, ◌<◌, ◌||◌, Bool, true, false, List, length, get_or, find, Option, IfSome}
use Rattle.ecam_spec.specs.declared.kinds.Key.TheVariants.{Clr, Rcl, Emer}
use Rattle.ecam_spec.specs.Past.{previous, running_since, last_since, previously}
use Rattle.ecam_spec.specs.Levels.{is_caution_level}
use Rattle.ecam_spec.specs.Book.{Book}
use Rattle.ecam_spec.specs.Situation.{alert_at}
use Rattle.ecam_spec.specs.Screen.{order}
use Rattle.ecam_spec.specs.Crew as crew
use Rattle.ecam_spec.specs.Crew.{Cockpit, long_recall, shown, shows_nothing}
use Rattle.ecam_kinds.specs.declared.keys.Keys.{Keys}
use Rattle.ecam_kinds.specs.KeyState.{is_pressed, is_held}
use Rattle.crew_marks.specs.declared.mark.Mark.{Mark}
use Rattle.crew_marks.specs.declared.mark.Actions.{Actions}
use Rattle.crew_marks.specs.MarkSets.{mark_at, AreMany}
use Rattle.crew_marks.specs.CrewMarks.{CrewMarks, is_cleared, is_recalled, is_shown}
use Rattle.crew_marks.specs.Looked.{StepsLooked, StepsAll}

-- the cockpit is one of the book: its alerts, their order, and which of them are cautions
pub record IsCrewOf (b : Book) (c : Cockpit) : Type 0 where
  pub order : c.order ≡ order b
  pub is_caution : (a : ℕ) → c.is_caution a ≡ is_caution_level (alert_at b a).level

-- what comes is what moment k of the cockpit says: which alerts are up and waiting, the keys, and the start of phase 1
pub record SeesCrew (c : Cockpit) (k : ℕ) (ups waits : List Bool) (keys : Keys) (enters : Bool) : Type 0 where
  pub up : (a : ℕ) → a < length ups → get_or ups a false ≡ c.up a k
  pub waiting : (a : ℕ) → a < length waits → get_or waits a false ≡ c.waiting a k
  pub clr : is_pressed keys Clr ≡ c.clr k
  pub rcl : is_pressed keys Rcl ≡ c.rcl k
  pub emer : is_pressed keys Emer ≡ c.emer k
  pub rcl_held : is_held keys Rcl ≡ c.rcl_held k
  pub enters_one : enters ≡ c.enters_one k

-- in moment k the alert is up and waits as in the moment before; before moment 0 it does neither
pub record IsStill (c : Cockpit) (k a : ℕ) : Type 0 where
  pub up : c.up a k ≡ previous (c.up a) k
  pub waiting : c.waiting a k ≡ previous (c.waiting a) k

-- in moment k each alert is up and waits as in the moment before; before moment 0 none does
pub record AreStill (b : Book) (c : Cockpit) (k : ℕ) : Type 0 where
  pub up : (a : ℕ) → a < length b.alerts → c.up a k ≡ previous (c.up a) k
  pub waiting : (a : ℕ) → a < length b.alerts → c.waiting a k ≡ previous (c.waiting a) k

-- in moment k the crew presses nothing that acts on an alert, RCL isn't held, and phase 1 doesn't start
pub record NothingActs (c : Cockpit) (k : ℕ) : Type 0 where
  pub clr : c.clr k ≡ false
  pub rcl : c.rcl k ≡ false
  pub emer : c.emer k ≡ false
  pub rcl_held : c.rcl_held k ≡ false
  pub enters_one : c.enters_one k ≡ false

-- the marks are those of the book: there is one for each alert, the order is the book's, the target is an alert, the first
-- shown is the first in order, and an alert that is cleared and not recalled isn't shown
pub record MarksFit (b : Book) (m : CrewMarks) : Type 0 where
  pub many : AreMany m.sets (length b.alerts)
  pub ordered : m.sets.order ≡ order b
  pub target : IfSome m.target (λ a. a < length b.alerts)
  pub first : m.first ≡ find (is_shown m) (order b)
  pub hidden : (a : ℕ) → is_cleared m a ≡ true → is_recalled m a ≡ false → is_shown m a ≡ false

-- the mark of alert a after k moments
pub record MarkStands (c : Cockpit) (a k : ℕ) (m : Mark) : Type 0 where
  pub cleared : m.cleared ≡ previous (crew.cleared c (shown c) a) k
  pub cancelled : m.cancelled ≡ previous (crew.cancelled c (shown c) a) k
  pub recalled : m.recalled ≡ previous (crew.recalled c (shown c) a) k
  pub shown : m.shown ≡ previous (crew.is_shown c (shown c) a) k

-- the marks stand for the first k moments of the cockpit
pub record MarksStand (b : Book) (c : Cockpit) (k : ℕ) (m : CrewMarks) : Type 0 where
  pub moments : m.moments ≡ k
  pub marks : (a : ℕ) → a < length b.alerts → MarkStands c a k (mark_at m.sets a)
  pub target : m.target ≡ previously (crew.target (shown c)) k
  pub first : m.first ≡ crew.target (shown c) k
  pub held_since : m.held_since ≡ running_since c.rcl_held k
  pub quiet_press : m.quiet_press ≡ previously (last_since c.rcl (shows_nothing c)) k

-- the alert was cleared, and was neither recalled nor waits now
pub record OnlyCleared (m : CrewMarks) (waits : List Bool) (a : ℕ) : Type 0 where
  pub cleared : is_cleared m a ≡ true
  pub recalled : is_recalled m a ≡ false
  pub waiting : get_or waits a false ≡ false

-- the crew and the flight do what moment k says
pub record SeesActions (c : Cockpit) (k : ℕ) (x : Actions) : Type 0 where
  pub clr : x.clr ≡ c.clr k
  pub rcl : x.rcl ≡ c.rcl k
  pub emer : x.emer ≡ c.emer k
  pub restores : x.restores ≡ (long_recall c k || c.enters_one k)

-- one moment more is taken, in which these are up and wait, the crew and the flight do this, RCL is held since then, and
-- those are looked at that were taken
pub record WalksMoment (b : Book) (ups waits : List Bool) (x : Actions) (held : Option ℕ) (old new : CrewMarks) : Type 0 where
  pub fits : MarksFit b new
  pub moments : new.moments ≡ old.moments + 1
  pub looked : new.looked ≡ old.looked
  pub steps : StepsLooked b ups waits old.looked old.first x old.sets new.sets
  pub changed : (new.changed ≡ false) ↔ (new.sets ≡ old.sets)
  -- where that steps each mark, all is as the definitions say of all moments
  pub stands : (c : Cockpit) (k : ℕ) (keys : Keys) (enters : Bool) → IsCrewOf b c → SeesCrew c k ups waits keys enters
      → SeesActions c k x → held ≡ running_since c.rcl_held (suc k)
      → StepsAll b ups waits old.first x old.sets new.sets
      → MarksStand b c k old → MarksStand b c (suc k) new
