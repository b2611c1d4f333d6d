-- What is kept of the crew's actions, as plain data.
use Rattle.std.specs.Prelude.{◌≡◌, ℕ, ◌+◌, ◌-◌, ◌^◌, ◌<◌, Bool, false, ◌&&◌, nat_le, List, Option, None, is_none, get_or, if◌then◌else◌}
use Rattle.std.specs.Option.{option_map_or}
use Rattle.ecam_spec.specs.declared.kinds.Key.TheVariants.{Clr}
use Rattle.ecam_spec.specs.Crew.{is_alert}
use Rattle.ecam_kinds.specs.declared.keys.Keys.{Keys}
use Rattle.ecam_kinds.specs.KeyState.{is_pressed}
use Rattle.crew_marks.specs.declared.walk.Walked.{Walked}
use Rattle.crew_marks.specs.MarkSets.{MarkSets}

pub record CrewMarks : Type 0 where
  -- which alerts are cleared, cancelled, recalled and shown
  pub sets : MarkSets
  -- the alerts that were looked at: the last moment changed no mark of another
  pub looked : List ℕ
  -- the target of the last moment, and the first alert that it showed, in order
  pub target : Option ℕ
  pub first : Option ℕ
  -- a set was changed by the last moment
  pub changed : Bool
  -- how many moments there were
  pub moments : ℕ
  -- since when RCL is held, and the last press of it since which nothing was shown
  pub held_since : Option ℕ
  pub quiet_press : Option ℕ

-- the number of moments can grow: there are 2 ^ 63 moments of 100 ms in 29 thousand million years
abbrev pub CanGoOn : CrewMarks → Type 0
CanGoOn m = m.moments < 2 ^ 63

-- whether an alert is cleared, cancelled, recalled, and shown
abbrev pub is_cleared : CrewMarks → ℕ → Bool
is_cleared m a = get_or m.sets.cleared a false

abbrev pub is_cancelled : CrewMarks → ℕ → Bool
is_cancelled m a = get_or m.sets.cancelled a false

abbrev pub is_recalled : CrewMarks → ℕ → Bool
is_recalled m a = get_or m.sets.recalled a false

abbrev pub is_shown : CrewMarks → ℕ → Bool
is_shown m a = get_or m.sets.shown a false

-- CLR strikes the alert in the next moment, where these are its keys
abbrev pub strikes : CrewMarks → Keys → ℕ → Bool
strikes m keys a = is_pressed keys Clr && is_alert a m.first

-- NORMAL stands after so many moments: it stands for thirty moments from the last press of RCL on since which nothing was
-- shown, that of the press among them
abbrev pub stands_normal : Option ℕ → ℕ → Bool
stands_normal press moments = option_map_or (λ j. nat_le (moments - j) 30) press false

-- a moment in which nothing acts would leave all but the number of moments: such a one was the last
pub record IsSettled (m : CrewMarks) : Type 0 where
  pub target : m.target ≡ m.first
  pub changed : m.changed ≡ false
  pub held_since : m.held_since ≡ None
  pub quiet_press : m.quiet_press ≡ (if is_none m.first then m.quiet_press else None)

-- a moment ends that found this, and before whose end RCL was held since then
pub record EndsMoment (found : Walked) (held : Option ℕ) (old new : CrewMarks) : Type 0 where
  pub sets : new.sets ≡ old.sets
  pub looked : new.looked ≡ old.looked
  pub target : new.target ≡ old.first
  pub first : new.first ≡ found.first
  pub changed : new.changed ≡ found.changed
  pub moments : new.moments ≡ old.moments + 1
  pub held_since : new.held_since ≡ held
