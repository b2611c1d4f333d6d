-- Which alerts a walk looks at.
use Rattle.std.specs.Prelude.{◌≡◌, ℕ, ◌<◌, Bool, true, false, List, length, get_or, Option}
use Rattle.ecam_spec.specs.Book.{Book}
use Rattle.wakes.specs.Marks as numbers
use Rattle.crew_marks.specs.declared.mark.Actions.{Actions}
use Rattle.crew_marks.specs.MarkSets.{MarkSets, mark_at, is_marked}
use Rattle.crew_marks.specs.MarkStep.{mark_after, sight_of}

-- each alert whose flag is set is in the set
abbrev pub AreAmong : List Bool → List ℕ → Type 0
AreAmong flags set = (a : ℕ) → get_or flags a false ≡ true → numbers.is_marked set a ≡ true

-- each alert that is up, waits, or of which something is marked is in the set
pub record AreLooked (s : MarkSets) (ups waits : List Bool) (set : List ℕ) : Type 0 where
  pub up : AreAmong ups set
  pub waiting : AreAmong waits set
  pub marked : (a : ℕ) → is_marked (mark_at s a) ≡ true → numbers.is_marked set a ≡ true

-- where the crew and the flight do this, each alert in the set takes one moment more, and the others keep their marks
pub record StepsLooked (b : Book) (ups waits : List Bool) (set : List ℕ) (target : Option ℕ) (x : Actions) (old new : MarkSets) : Type 0 where
  pub marks : (a : ℕ) → a < length b.alerts → numbers.is_marked set a ≡ true
      → mark_at new a ≡ mark_after (mark_at old a) (sight_of b ups waits target a) x
  pub kept : (a : ℕ) → numbers.is_marked set a ≡ false → mark_at new a ≡ mark_at old a
  pub order : new.order ≡ old.order

-- where the crew and the flight do this, each alert takes one moment more
abbrev pub StepsAll : Book → List Bool → List Bool → Option ℕ → Actions → MarkSets → MarkSets → Type 0
StepsAll b ups waits target x old new =
    (a : ℕ) → a < length b.alerts → mark_at new a ≡ mark_after (mark_at old a) (sight_of b ups waits target a) x
