-- What is kept of an alert, by its signals.
use Rattle.std.specs.Prelude.{◌≡◌, ℕ, zero, suc, ◌+◌, ◌<◌, ◌&&◌, nat_le, List, slice_get, Bool, true, false, Option, Some, None}
use Rattle.std.specs.Option.{option_map_or}
use Rattle.ecam_spec.specs.Past.{previous}
use Rattle.ecam_spec.specs.Lamps as lamps
use Rattle.wakes.specs.Marks.{is_marked}
use Rattle.attention.specs.declared.watch.Onset.{Onset}
use Rattle.attention.specs.declared.watch.Onset.TheVariants.{Never, Open, Acknowledged}
use Rattle.attention.specs.declared.watch.Watch.{Watch}

-- how a last onset stands, by its moment, if there is one, and whether it is open
abbrev pub onset_of : Option ℕ → Bool → Onset
onset_of None still = Never
onset_of (Some j) true = Open j
onset_of (Some j) false = Acknowledged

-- after a press that acknowledges
abbrev pub acknowledged : Onset → Onset
acknowledged Never = Never
acknowledged (Open j) = Acknowledged
acknowledged Acknowledged = Acknowledged

-- how the last onset of an alert stands after k moments
abbrev pub onset_after : lamps.Attention → ℕ → ℕ → Onset
onset_after a i zero = Never
onset_after a i (suc k) = onset_of (lamps.last_onset a i k) (lamps.is_open a i k)

-- what is kept of it after k moments
abbrev pub watch_after : lamps.Attention → ℕ → ℕ → Watch
watch_after a i k = record { up = previous (a.up i) k; onset = onset_after a i k }

-- this is kept of the first n alerts after k moments
abbrev pub AreWatched : lamps.Attention → ℕ → ℕ → List Watch → Type 0
AreWatched a k n watches = (i : ℕ) → i < n → slice_get watches i ≡ Some (watch_after a i k)

-- it came up, and no press has acknowledged it
abbrev pub is_open : Onset → Bool
is_open Never = false
is_open (Open j) = true
is_open Acknowledged = false

-- its onset is open
abbrev pub has_open : Watch → Bool
has_open w = is_open w.onset

-- the alert is up, and its onset is open
abbrev pub calling : Watch → Bool
calling w = w.up && has_open w

-- the moment of an open onset
abbrev pub opened : Onset → ℕ
opened Never = 0
opened (Open j) = j
opened Acknowledged = 0

-- a chime since the onset of alert i, if that is open, sounds in moment j
abbrev pub rings_by : ℕ → List Watch → ℕ → Bool
rings_by j watches i = option_map_or (λ w. nat_le j (opened w.onset + 4)) (slice_get watches i) false

-- each alert of which such a watch is kept is marked
abbrev pub AreMarked : (Watch → Bool) → List Watch → List ℕ → Type 0
AreMarked test kept marks = (i : ℕ) (w : Watch) → slice_get kept i ≡ Some w → test w ≡ true → is_marked marks i ≡ true
