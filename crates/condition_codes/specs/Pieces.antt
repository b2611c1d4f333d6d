-- What belongs to conditions one behind another in one list, with the place where that of each starts, and where the last ends.
use Rattle.std.specs.Prelude.{◌≡◌, ℕ, ◌+◌, ◌≤◌, ◌^◌, List, ◌++◌, length, slice_get, slice_index, Some}
use Rattle.std.specs.List.{flat_map}
use Rattle.ecam_spec.specs.TermSize.{Placed, slots, nodes}
use Rattle.ecam_spec.specs.declared.limits.TheConstants.{TERM_NODES}
use Rattle.book_model.specs.View.{tree_in}
use Rattle.book_model.specs.declared.draft.Term.{Term}
use Rattle.term_eval.specs.Code.{code, owners, IsCode}
use Rattle.term_eval.specs.Links.{links}
use Rattle.term_eval.specs.declared.code.Step.{Step}
use Rattle.term_eval.specs.declared.link.Link.{Link}
use Rattle.term_eval.specs.declared.owner.Owner.{Owner}
use Rattle.condition_codes.specs.declared.pieces.Pieces.{Pieces}
use Rattle.condition_codes.specs.Flat.{piece, ArePieces}
use Rattle.condition_codes.specs.Places.{nodes_before}

-- a condition has few enough nodes, and its slots low enough numbers, for the links of its code
pub record FitsLinks (t : Term) : Type 0 where
  pub small : nodes (tree_in t) ≤ TERM_NODES
  pub few : t.at + slots (tree_in t) ≤ 2 ^ 32

-- the pieces are the codes of the conditions, each with its slots, and with a step for each node
pub record AreCodes (ps : List Placed) (starts : List ℕ) (steps : List Step) : Type 0 where
  pub pieces : ArePieces (length ps) starts steps
  pub nodes : (j : ℕ) → j ≤ length ps → slice_index starts j ≡ nodes_before ps j
  pub codes : (j : ℕ) (p : Placed) → slice_get ps j ≡ Some p → IsCode p.tree p.at (piece starts steps j)
  pub whole : steps ≡ flat_map (λ (p : Placed). code p.at 0 p.tree) ps

-- each piece is what belongs to its condition
pub record AreEach {X : Type 0} (own : Placed → List X) (ps : List Placed) (starts : List ℕ) (items : List X) : Type 0 where
  pub pieces : ArePieces (length ps) starts items
  pub each : (j : ℕ) (p : Placed) → slice_get ps j ≡ Some p → piece starts items j ≡ own p

-- the links of a condition's nodes, and its temporal nodes
abbrev pub links_of : Placed → List Link
links_of p = links p.at p.tree

abbrev pub owners_of : Placed → List Owner
owners_of p = owners 0 (code p.at 0 p.tree)

-- the slots of each condition start there
abbrev pub AreSlots : List Placed → List ℕ → Type 0
AreSlots ps starts = (j : ℕ) (p : Placed) → slice_get ps j ≡ Some p → slice_index starts j ≡ p.at

-- the pieces hold the codes of these conditions
pub record HasCodes (ps : List Placed) (c : Pieces) : Type 0 where
  pub codes : AreCodes ps c.starts.items c.steps.items
  pub links : AreEach links_of ps c.starts.items c.links.items
  pub owners : AreEach owners_of ps c.owner_starts.items c.owners.items
  pub count : length c.slot_starts.items ≡ length ps
  pub slots : AreSlots ps c.slot_starts.items

-- the codes of these conditions were put behind the others
abbrev pub AddsCodes : List Placed → Pieces → Pieces → Type 0
AddsCodes more old new = (ps : List Placed) → HasCodes ps old → HasCodes (ps ++ more) new
