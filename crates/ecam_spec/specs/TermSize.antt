-- How large a condition is, and where its slots lie. A slot is what one temporal operator remembers from
-- moment to moment: each `confirmed`, `held`, `risen` and `latched` has one. The slots of a condition lie in
-- preorder: a node's own comes first, then its children's, in order.
use Rattle.std.specs.Prelude.{ℕ, ◌+◌, ◌≤◌, max, List, [], ◌∷◌}
use Rattle.ecam_spec.specs.Book.{Tree, Trees, negation, all, any, at_least, confirmed, held, risen, latched, none, more}

-- some conditions, in order
abbrev pub trees : List Tree → Trees
trees [] = none
trees (c ∷ cs) = more c (trees cs)

unfoldable mutual
  -- how many nodes it has
  pub nodes : Tree → ℕ
  nodes (negation c) = nodes c + 1
  nodes (all cs) = nodes_of cs + 1
  nodes (any cs) = nodes_of cs + 1
  nodes (at_least n cs) = nodes_of cs + 1
  nodes (confirmed c n) = nodes c + 1
  nodes (held c n) = nodes c + 1
  nodes (risen c) = nodes c + 1
  nodes (latched s r) = nodes s + nodes r + 1
  nodes _ = 1

  pub nodes_of : Trees → ℕ
  nodes_of none = 0
  nodes_of (more c cs) = nodes c + nodes_of cs

unfoldable mutual
  -- how many nodes stand on its longest way down: an atom has 1
  pub depth : Tree → ℕ
  depth (negation c) = depth c + 1
  depth (all cs) = depth_of cs + 1
  depth (any cs) = depth_of cs + 1
  depth (at_least n cs) = depth_of cs + 1
  depth (confirmed c n) = depth c + 1
  depth (held c n) = depth c + 1
  depth (risen c) = depth c + 1
  depth (latched s r) = max (depth s) (depth r) + 1
  depth _ = 1

  -- the greatest of their depths
  pub depth_of : Trees → ℕ
  depth_of none = 0
  depth_of (more c cs) = max (depth c) (depth_of cs)

unfoldable mutual
  -- how many slots it has
  pub slots : Tree → ℕ
  slots (negation c) = slots c
  slots (all cs) = slots_of cs
  slots (any cs) = slots_of cs
  slots (at_least n cs) = slots_of cs
  slots (confirmed c n) = slots c + 1
  slots (held c n) = slots c + 1
  slots (risen c) = slots c + 1
  slots (latched s r) = slots s + slots r + 1
  slots _ = 0

  pub slots_of : Trees → ℕ
  slots_of none = 0
  slots_of (more c cs) = slots c + slots_of cs

-- a condition, and where its slots begin
pub record Placed : Type 0 where
  pub tree : Tree
  pub at : ℕ

-- conditions whose slots follow one another
unfoldable pub placed : ℕ → Trees → List Placed
placed at none = []
placed at (more c cs) = record { tree = c; at = at } ∷ placed (at + slots c) cs

-- how many slots are a node's own: it comes before those of its children
unfoldable pub own_slots : Tree → ℕ
own_slots (confirmed c n) = 1
own_slots (held c n) = 1
own_slots (risen c) = 1
own_slots (latched s r) = 1
own_slots _ = 0

-- the children of a node
unfoldable pub children : Tree → Trees
children (negation c) = more c none
children (all cs) = cs
children (any cs) = cs
children (at_least n cs) = cs
children (confirmed c n) = more c none
children (held c n) = more c none
children (risen c) = more c none
children (latched s r) = more s (more r none)
children _ = none

-- the children of a node whose slots begin at a place, with the places where theirs begin
unfoldable pub placed_children : ℕ → Tree → List Placed
placed_children at c = placed (at + own_slots c) (children c)

-- the slots of the one end before those of the other begin
abbrev pub EndsBefore : Placed → Placed → Type 0
EndsBefore p q = p.at + slots p.tree ≤ q.at

-- its slots lie in the range from one number up to another
abbrev pub LiesIn : ℕ → ℕ → Placed → Type 0
LiesIn from to p = (from ≤ p.at) × (p.at + slots p.tree ≤ to)
