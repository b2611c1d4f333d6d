-- The parts of a condition: each of its nodes with all that stands below it, in the order of its code.
use Rattle.std.specs.Prelude.{◌≡◌, ℕ, ◌+◌, Bool, true, false, List, [], ◌∷◌, ◌++◌, slice_get, Some}
use Rattle.ecam_spec.specs.Book.{Tree, Trees, constant, discrete, valid, compared, in_phase, alert, press, computer, negation, all, any, at_least, confirmed, held, risen, latched, none, more}
use Rattle.ecam_spec.specs.TermSize.{slots, nodes}

-- the condition that a node heads, where its slots start, and how far before it the node stands of which it is a child, or 0
pub record Part : Type 0 where
  pub tree : Tree
  pub at : ℕ
  pub up : ℕ

abbrev part : Tree → ℕ → ℕ → Part
part c at up = record { tree = c; at = at; up = up }

unfoldable mutual
  -- the parts of a condition whose slots start at a place
  pub parts : ℕ → ℕ → Tree → List Part
  parts at up (constant b) = part (constant b) at up ∷ []
  parts at up (discrete p) = part (discrete p) at up ∷ []
  parts at up (valid p) = part (valid p) at up ∷ []
  parts at up (compared p op x) = part (compared p op x) at up ∷ []
  parts at up (in_phase set) = part (in_phase set) at up ∷ []
  parts at up (alert a) = part (alert a) at up ∷ []
  parts at up (press key) = part (press key) at up ∷ []
  parts at up (computer n) = part (computer n) at up ∷ []
  parts at up (negation c) = part (negation c) at up ∷ parts at 1 c
  parts at up (all cs) = part (all cs) at up ∷ parts_of at 1 cs
  parts at up (any cs) = part (any cs) at up ∷ parts_of at 1 cs
  parts at up (at_least n cs) = part (at_least n cs) at up ∷ parts_of at 1 cs
  parts at up (confirmed c n) = part (confirmed c n) at up ∷ parts (at + 1) 1 c
  parts at up (held c n) = part (held c n) at up ∷ parts (at + 1) 1 c
  parts at up (risen c) = part (risen c) at up ∷ parts (at + 1) 1 c
  parts at up (latched s r) = part (latched s r) at up ∷ (parts (at + 1) 1 s ++ parts (at + 1 + slots s) (1 + nodes s) r)

  -- those of the members of a list, whose slots follow one another
  pub parts_of : ℕ → ℕ → Trees → List Part
  parts_of at up none = []
  parts_of at up (more c cs) = parts at up c ++ parts_of (at + slots c) (up + nodes c) cs

-- node i of a condition, whose slots start at a place, heads this part
abbrev pub Heads : Tree → ℕ → ℕ → Part → Type 0
Heads c at i x = slice_get (parts at 0 c) i ≡ Some x

-- the node has a slot: it goes by moments before
unfoldable pub is_temporal : Tree → Bool
is_temporal (confirmed c n) = true
is_temporal (held c n) = true
is_temporal (risen c) = true
is_temporal (latched s r) = true
is_temporal _ = false
