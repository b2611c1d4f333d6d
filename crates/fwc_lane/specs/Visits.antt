-- How many nodes of conditions a moment visits: those of the conditions that it wakes.
use Rattle.std.specs.Prelude.{◌≡◌, ℕ, zero, suc, ◌+◌, ◌-◌, ◌^◌, min, List, length, slice_get, if◌then◌else◌}
use Rattle.std.specs.Option.{option_map_or}
use Rattle.ecam_spec.specs.Book.{Book}
use Rattle.ecam_spec.specs.TermSize.{Placed, nodes}
use Rattle.ecam_spec.specs.Term.{World}
use Rattle.ecam_spec.specs.History.{Moment}
use Rattle.book_model.specs.Conditions.{places, world_of}
use Rattle.term_eval.specs.Woken.{woken}
use Rattle.wakes.specs.Marks.{is_marked}

-- the nodes of condition i of some, where moment k wakes it in its world
abbrev pub nodes_woken : List Placed → (ℕ → World) → ℕ → ℕ → ℕ
nodes_woken ps worlds k i = option_map_or (λ (p : Placed). if woken (worlds i) p.tree k then nodes p.tree else 0) (slice_get ps i) 0

-- those of the conditions below i
unfoldable pub visits_below : List Placed → (ℕ → World) → ℕ → ℕ → ℕ
visits_below ps worlds k zero = 0
visits_below ps worlds k (suc i) = visits_below ps worlds k i + nodes_woken ps worlds k i

-- those of all conditions of a book, each in the world in which it is asked
abbrev pub visits : Book → (ℕ → Moment) → ℕ → ℕ
visits b moments k = visits_below (places b) (world_of b moments) k (length (places b))

-- the nodes of condition i of some, where it is marked
abbrev pub nodes_marked : List Placed → List ℕ → ℕ → ℕ
nodes_marked ps marks i = option_map_or (λ (p : Placed). if is_marked marks i then nodes p.tree else 0) (slice_get ps i) 0

-- those of the conditions below i
unfoldable pub marked_nodes : List Placed → List ℕ → ℕ → ℕ
marked_nodes ps marks zero = 0
marked_nodes ps marks (suc i) = marked_nodes ps marks i + nodes_marked ps marks i

-- so many nodes were visited before the moment, and since then those of the conditions that are marked
abbrev pub IsCounted : List Placed → ℕ → List ℕ → ℕ → Type 0
IsCounted ps visited marks count = count ≡ min (visited + marked_nodes ps marks (length ps)) (2 ^ 64 - 1)
