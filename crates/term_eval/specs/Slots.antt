-- What is kept of temporal nodes, a slot for each, seen as three lists: when each is to be looked at, what it remembers, and
-- which node it is.
use Rattle.std.specs.Prelude.{ℕ, List, map, slice_index_or}
use Rattle.term_eval.specs.declared.slot.Slot.{Slot}
use Rattle.term_eval.specs.declared.memory.Cell.{Cell}
use Rattle.term_eval.specs.declared.memory.Cell.TheVariants.{Off}
use Rattle.term_eval.specs.declared.owner.Owner.{Owner}
use Rattle.term_eval.specs.declared.owner.Timing.TheVariants.{Confirmed}

abbrev pub wakes_of : List Slot → List ℕ
wakes_of slots = map (λ (s : Slot). s.wake) slots

abbrev pub cells_of : List Slot → List Cell
cells_of slots = map (λ (s : Slot). s.cell) slots

abbrev pub owners_of : List Slot → List Owner
owners_of slots = map (λ (s : Slot). s.owner) slots

-- a slot of no moment, which no node has yet
abbrev pub empty : Slot
empty = record { wake = 0; cell = Off; owner = record { moments = 0; node = 0; timing = Confirmed } }

-- which node slot i is of, as if all behind the last were of none
abbrev pub owner_at : List Owner → ℕ → Owner
owner_at owners i = slice_index_or owners i (record { moments = 0; node = 0; timing = Confirmed })
