-- The codes of a book: of each of its conditions the code, its links, and its temporal nodes, under its number.
use Rattle.std.specs.Prelude.{ℕ, List, map}
use Rattle.ecam_spec.specs.Book.{Book}
use Rattle.book_model.specs.Conditions.{places}
use Rattle.condition_codes.specs.Pieces.{AreCodes, AreEach, AreSlots, links_of, owners_of}
use Rattle.condition_codes.specs.declared.codes.CodeTable.{CodeTable}
use Rattle.condition_codes.specs.declared.starts.Starts.{Starts}

-- where the nodes of each condition start, and where the last end
abbrev pub node_starts : List Starts → List ℕ
node_starts = map (λ (s : Starts). s.node)

-- its temporal nodes
abbrev pub owner_starts : List Starts → List ℕ
owner_starts = map (λ (s : Starts). s.owner)

-- its slots
abbrev pub slot_starts : List Starts → List ℕ
slot_starts = map (λ (s : Starts). s.slot)

-- the codes are those of the book's conditions
pub record IsCodes (b : Book) (c : CodeTable) : Type 0 where
  pub codes : AreCodes (places b) (node_starts c.starts.items.items) c.steps.items.items
  pub links : AreEach links_of (places b) (node_starts c.starts.items.items) c.links.items.items
  pub owners : AreEach owners_of (places b) (owner_starts c.starts.items.items) c.owners.items.items
  pub slots : AreSlots (places b) (slot_starts c.starts.items.items)
