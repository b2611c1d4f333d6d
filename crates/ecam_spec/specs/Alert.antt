-- When an alert is present, active, waiting, starred and up. The outline is the A320's (DSC-31); the exact rules are
-- this project's own.
use Rattle.std.specs.Prelude.{ℕ, not, ◌&&◌, ◌==◌, List, [], length, get_or, filter, find, Option}
use Rattle.std.specs.List.{list_any}
use Rattle.ecam_spec.specs.Past.{Signal, historically_within, since, rise}
use Rattle.ecam_spec.specs.Places.{below}

-- its condition holds, and has held in each of `confirm` moments before
unfoldable pub present : ℕ → Signal → Signal
present confirm condition = historically_within confirm condition

-- it has been present since a moment whose phase didn't inhibit it. So it waits while it is inhibited, and
-- once it is active no phase takes it away
unfoldable pub active : Signal → Signal → Signal
active inhibited present = since (λ j. present j && not (inhibited j)) present

-- it is present, and not active: a phase inhibits it
unfoldable pub waiting : Signal → Signal → Signal
waiting present active k = present k && not (active k)

-- a primary failure explains it: it is active, and so is an alert that lists it as secondary. `primaries` are
-- these alerts, and `active` tells which alerts are active
unfoldable pub starred : (ℕ → Signal) → List ℕ → ℕ → Signal
starred active primaries a k = active a k && list_any (λ p. active p k) primaries

-- the first active primary, in the book's order
unfoldable pub starred_by : (ℕ → Signal) → List ℕ → ℕ → Option ℕ
starred_by active primaries k = find (λ p. active p k) primaries

-- it is active and no primary failure explains it
unfoldable pub up : Signal → Signal → Signal
up active starred k = active k && not (starred k)

-- it comes up: it is up, and wasn't in the moment before
unfoldable pub onset : Signal → Signal
onset up = rise up

-- the alerts that list alert a as secondary, in the book's order, where `lists` has the secondaries of each
unfoldable pub primaries_in : List (List ℕ) → ℕ → List ℕ
primaries_in lists a = filter (λ p. list_any (λ s. s == a) (get_or lists p [])) (below (length lists))
