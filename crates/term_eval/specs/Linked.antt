-- What a condition is stepped by in place of its code: the links of its nodes, and what its slots say of its temporal ones.
use Rattle.std.specs.Prelude.{◌≡◌, ℕ, ◌+◌, ◌≤◌, List, length, slice_get, Some}
use Rattle.ecam_spec.specs.Book.{Tree}
use Rattle.ecam_spec.specs.TermSize.{slots}
use Rattle.term_eval.specs.declared.link.Link.{Link}
use Rattle.term_eval.specs.declared.owner.Owner.{Owner}
use Rattle.term_eval.specs.Code.{code, owners, IsHeld}
use Rattle.term_eval.specs.Links.{links}
use Rattle.term_eval.specs.Memory.{Memory, NodeMemory}

-- the links are those of the condition, which keeps its limits, and what is kept has room for its nodes and slots
pub record AreLinked (own : List Link) (n : NodeMemory) (c : Tree) (at first : ℕ) : Type 0 where
  pub links : own ≡ links at c
  pub held : IsHeld (code at 0 c) n c at first

-- the slots from a place on are of these temporal nodes
abbrev pub AreOwned : List Owner → ℕ → List Owner → Type 0
AreOwned all at own = (i : ℕ) (o : Owner) → slice_get own i ≡ Some o → slice_get all (at + i) ≡ Some o

-- and there are so many temporal nodes, whose slots are there and are their own
pub record CanRun (own : List Link) (n : ℕ) (m : Memory) (c : Tree) (at first : ℕ) : Type 0 where
  pub linked : AreLinked own m.nodes c at first
  pub count : n ≡ slots c
  pub owners : AreOwned m.owners at (owners 0 (code at 0 c))
  pub range : at + slots c ≤ length m.slots
