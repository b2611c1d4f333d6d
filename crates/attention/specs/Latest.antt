-- The latest onset of the alerts that call with a chime: by it is known until when one of them sounds.
use Rattle.std.specs.Prelude.{◌≡◌, ℕ, ◌≤◌, Bool, true, ◌&&◌, List, Option}
use Rattle.std.specs.List.{list_any}
use Rattle.ecam_spec.specs.Places.{below}
use Rattle.wakes.specs.Marks.{is_marked}
use Rattle.attention.specs.declared.latest.Latest.{Latest}
use Rattle.attention.specs.declared.watch.Watch.{Watch}
use Rattle.attention.specs.Watches.{rings_by}
use Rattle.attention.specs.Calling.{rings_in}

-- a chime since the onset of one of the first n alerts that are marked sounds in moment j
abbrev pub any_rings : ℕ → List Watch → List ℕ → ℕ → Bool
any_rings n watches chimes j = list_any (λ i. is_marked chimes i && rings_by j watches i) (below n)

-- this is the latest of their onsets
abbrev pub IsLatest : ℕ → List Watch → List ℕ → Option ℕ → Type 0
IsLatest n watches chimes latest = (j : ℕ) → rings_in j latest ≡ any_rings n watches chimes j

-- what sounds in a moment sounds in those before it
abbrev pub EndsOnce : (ℕ → Bool) → Type 0
EndsOnce sounds = (i j : ℕ) → i ≤ j → sounds j ≡ true → sounds i ≡ true

-- no chime sounds for longer than since this onset, and where it is known one does so as long
pub record Tells (sounds : ℕ → Bool) (l : Latest) : Type 0 where
  pub most : (j : ℕ) → sounds j ≡ true → rings_in j l.onset ≡ true
  pub least : l.is_known ≡ true → (j : ℕ) → rings_in j l.onset ≡ true → sounds j ≡ true
