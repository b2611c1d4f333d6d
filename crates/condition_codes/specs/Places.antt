-- Where the nodes of a condition stand among those of all, one behind another.
use Rattle.std.specs.Prelude.{ℕ, zero, suc, ◌+◌, List, [], ◌∷◌}
use Rattle.ecam_spec.specs.TermSize.{Placed, nodes}

-- how many nodes the first j conditions have
unfoldable pub nodes_before : List Placed → ℕ → ℕ
nodes_before [] j = 0
nodes_before (p ∷ ps) zero = 0
nodes_before (p ∷ ps) (suc j) = nodes p.tree + nodes_before ps j
