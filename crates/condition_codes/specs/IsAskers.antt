-- Which nodes of a book's conditions ask for which operand.
use Rattle.std.specs.Prelude.{◌≡◌, ℕ, ◌<◌, List, length, slice_get, Some}
use Rattle.ecam_spec.specs.Book.{Book}
use Rattle.ecam_spec.specs.TermSize.{Placed, nodes}
use Rattle.book_model.specs.Conditions.{places}
use Rattle.term_eval.specs.Asked.{Asks}
use Rattle.term_eval.specs.Climb.{step_at}
use Rattle.term_eval.specs.Code.{code}
use Rattle.term_eval.specs.Links.{link_from}
use Rattle.term_eval.specs.Reading.{test_of}
use Rattle.term_eval.specs.Woken.{Operand}
use Rattle.watch_lists.specs.declared.number.Sizes.{Sizes}
use Rattle.watch_lists.specs.Naming.{operand_count, operand_number}
use Rattle.condition_codes.specs.declared.askers.Asker.{Asker}
use Rattle.condition_codes.specs.declared.askers.AskerTable.{AskerTable}
use Rattle.condition_codes.specs.Flat.{piece, ArePieces}
use Rattle.condition_codes.specs.Places.{nodes_before}

-- how many parameters and alerts a book has
abbrev pub sizes_in : Book → Sizes
sizes_in b = record { params = length b.parameters; alerts = length b.alerts }

-- the list has node i of condition j
abbrev pub IsAmong : List Asker → ℕ → ℕ → Type 0
IsAmong list j i = (k : ℕ) × (a : Asker) × (slice_get list k ≡ Some a) × (a.term ≡ j) × (a.node ≡ i)

-- the node asks for an operand of this number, and what is noted of it is so
pub record IsAsking (b : Book) (o : ℕ) (a : Asker) : Type 0 where
  pub place : Placed
  pub operand : Operand
  pub there : slice_get (places b) a.term ≡ Some place
  pub asks : Asks place.tree a.node operand
  pub number : operand_number (sizes_in b) operand ≡ o
  pub first : a.first ≡ nodes_before (places b) a.term
  pub link : a.link ≡ link_from (code place.at 0 place.tree) a.node
  pub size : a.size ≡ nodes place.tree
  pub test : a.test ≡ test_of (step_at (code place.at 0 place.tree) a.node).node

-- the list of an operand has each node that asks for it, and no other
pub record IsAskers (b : Book) (a : AskerTable) : Type 0 where
  pub pieces : ArePieces (operand_count (sizes_in b)) a.starts.items.items a.askers.items.items
  pub each : (o j i : ℕ) (p : Placed) (x : Operand) → o < operand_count (sizes_in b) → slice_get (places b) j ≡ Some p → Asks p.tree i x
      → operand_number (sizes_in b) x ≡ o → IsAmong (piece a.starts.items.items a.askers.items.items o) j i
  pub only : (o k : ℕ) (x : Asker) → o < operand_count (sizes_in b) → slice_get (piece a.starts.items.items a.askers.items.items o) k ≡ Some x
      → IsAsking b o x
