-- What is kept of the callouts of a parameter.
use Rattle.std.specs.Prelude.{◌≡◌, ℕ, ◌+◌, Bool, true, not, ◌&&◌, ◌||◌, ℤ, List, length, map, Option}
use Rattle.ecam_spec.specs.declared.kinds.Event.{Event}
use Rattle.ecam_spec.specs.Past.{previous}
use Rattle.ecam_spec.specs.Book.{Book}
use Rattle.ecam_spec.specs.History.{Moment, Era, era}
use Rattle.ecam_spec.specs.Replay.{tick_count}
use Rattle.ecam_spec.specs.Situation.{value_in}
use Rattle.view_spec.specs.Ticks.{is_up}
use Rattle.view_spec.specs.Callouts.{heights, margin, is_above, is_at_most, armed}
use Rattle.fwc_lane.specs.LaneStands.{Continues}
use Rattle.callouts.specs.declared.state.Callouts.{Callouts}

-- exactly these heights are armed
abbrev pub AreArmed : (ℕ → Bool) → Callouts → Type 0
AreArmed is_armed c = c.armed ≡ map is_armed heights

-- whether a height is armed after a moment with this value or none, by whether it was before
abbrev pub rearmed : Option ℤ → ℕ → Bool → Bool
rearmed value h before = is_above (h + margin) value || (not (is_at_most h value) && before)

-- they stand for the first k moments with these values: the heights are armed that were in the last of them
abbrev pub CalloutsStand : (ℕ → Option ℤ) → ℕ → Callouts → Type 0
CalloutsStand values k c = AreArmed (λ h. previous (armed values h) k) c

-- they stand for the whole moments of an era, whatever comes after these
abbrev pub StandInEra : Book → Era → Callouts → Type 0
StandInEra b e c = (m : ℕ → Moment) → Continues e m → CalloutsStand (value_in b m c.param) (length e.moments) c

-- they stand for a history: for the number of its Ticks, and where a computer is up for its era
pub record StandAfter (b : Book) (h : List Event) (c : Callouts) : Type 0 where
  pub ticks : c.ticks ≡ tick_count h
  pub heights : is_up h ≡ true → StandInEra b (era h) c
