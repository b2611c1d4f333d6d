-- How many nodes of conditions the computers of a pair visit.
use Rattle.std.specs.Prelude.{◌≡◌, ℕ, zero, suc, ◌+◌, ◌-◌, ◌^◌, min, Bool, ◌&&◌, List, [], ◌∷◌, ◌++◌, length, get_or, take, if◌then◌else◌}
use Rattle.ecam_spec.specs.declared.kinds.Event.{Event}
use Rattle.ecam_spec.specs.declared.kinds.Event.TheVariants.{Tick, End}
use Rattle.ecam_spec.specs.Book.{Book}
use Rattle.ecam_spec.specs.History.{Flags, flags_after, era}
use Rattle.ecam_spec.specs.Replay.{is_tick, moment_of}
use Rattle.fwc_lane.specs.Visits.{visits}
use Rattle.fwc_lane.specs.declared.lane.Lane.{Lane}
use Rattle.fwc_pair.specs.declared.pair.Pair.{Pair}

-- how many a computer has visited since it was made, up to 2 ^ 64 - 1
abbrev pub visited : Lane → ℕ
visited l = l.terms.cells.visits

-- how many a Tick after a history has to visit: those of the conditions that the moment wakes which it ends
abbrev pub tick_visits : Book → List Event → ℕ
tick_visits b h = visits b (moment_of (era (h ++ Tick ∷ []))) (length (era h).moments)

-- a computer visited so many more, if it is up, and else none
abbrev pub Visits : Bool → ℕ → Lane → Lane → Type 0
Visits up more old new = visited new ≡ (if up then min (visited old + more) (2 ^ 64 - 1) else visited old)

-- neither computer visited any
abbrev pub NoVisits : Pair → Pair → Type 0
NoVisits old new = (visited new.one ≡ visited old.one) × (visited new.two ≡ visited old.two)

-- how many an event after a history has a computer visit: those of a Tick, if the computer is up
abbrev pub event_visits : Book → List Event → Event → (Flags → Bool) → ℕ
event_visits b h e is_up = if is_tick e && is_up (flags_after h) then tick_visits b h else 0

-- how many the first n events of a history have it visit together
unfoldable pub visits_before : Book → List Event → (Flags → Bool) → ℕ → ℕ
visits_before b h is_up zero = 0
visits_before b h is_up (suc n) = visits_before b h is_up n + event_visits b (take n h) (get_or h n End) is_up

-- and all of them
abbrev pub history_visits : Book → List Event → (Flags → Bool) → ℕ
history_visits b h is_up = visits_before b h is_up (length h)

-- each computer visited as many more as are asked of it, up to 2 ^ 64 - 1
pub record HaveVisited (more : (Flags → Bool) → ℕ) (old new : Pair) : Type 0 where
  pub one : visited new.one ≡ min (visited old.one + more (λ f. f.one)) (2 ^ 64 - 1)
  pub two : visited new.two ≡ min (visited old.two + more (λ f. f.two)) (2 ^ 64 - 1)
