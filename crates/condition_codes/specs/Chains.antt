-- Chains of the nodes that ask for one operand: each node tells the next.
use Rattle.std.specs.Prelude.{◌≡◌, ℕ, suc, ◌+◌, ◌-◌, ◌<◌, ◌≤◌, List, ◌++◌, length, slice_get, slice_index, Option, Some, None}
use Rattle.std.specs.Option.{option_map}
use Rattle.term_eval.specs.Asked.{node_asks}
use Rattle.term_eval.specs.Climb.{step_at, link_at}
use Rattle.term_eval.specs.Reading.{test_of}
use Rattle.term_eval.specs.Woken.{Operand}
use Rattle.term_eval.specs.declared.code.Step.{Step}
use Rattle.term_eval.specs.declared.link.Link.{Link}
use Rattle.watch_lists.specs.declared.number.Sizes.{Sizes}
use Rattle.watch_lists.specs.Naming.{operand_number, IsOperand}
use Rattle.condition_codes.specs.declared.askers.Asker.{Asker}
use Rattle.condition_codes.specs.Flat.{piece, ArePieces}

-- a node that asks for an operand asks for one of the book
abbrev pub AsksWithin : Sizes → Option Operand → Type 0
AsksWithin n (Some x) = IsOperand n x
AsksWithin n None = Unit {0}

-- the number of the operand that a step asks for
abbrev pub wanted : Sizes → Step → Option ℕ
wanted n s = option_map (operand_number n) (node_asks s.node)

-- node i asks for operand o
abbrev pub Wants : List (Option ℕ) → ℕ → ℕ → Type 0
Wants ws i o = slice_get ws i ≡ Some (Some o)

-- f is the first node from one on that asks for the operand, or where there is none, the number of nodes
pub record IsNext (ws : List (Option ℕ)) (o from f : ℕ) : Type 0 where
  pub low : from ≤ f
  pub high : f ≤ length ws
  pub asks : f < length ws → Wants ws f o
  pub first : (m : ℕ) → from ≤ m → m < f → Wants ws m o → ⊥

-- each operand tells the first of the nodes from one on that ask for it, and each of these nodes the next
pub record AreChains (ws : List (Option ℕ)) (from : ℕ) (firsts nexts : List ℕ) : Type 0 where
  pub first : (o : ℕ) → o < length firsts → IsNext ws o from (slice_index firsts o)
  pub next : (m o : ℕ) → from ≤ m → Wants ws m o → IsNext ws o (suc m) (slice_index nexts m)

-- the list has each node that asks for the operand, by what it is among all, and no other
pub record HasAskers (ws : List (Option ℕ)) (nodes : List Asker) (o : ℕ) (list : List Asker) : Type 0 where
  pub each : (m : ℕ) (a : Asker) → Wants ws m o → slice_get nodes m ≡ Some a → (k : ℕ) × (slice_get list k ≡ Some a)
  pub only : (k : ℕ) (a : Asker) → slice_get list k ≡ Some a → (m : ℕ) × Wants ws m o × (slice_get nodes m ≡ Some a)

-- the lists of the first n operands
pub record AreAskers (ws : List (Option ℕ)) (nodes : List Asker) (n : ℕ) (starts : List ℕ) (askers : List Asker) : Type 0 where
  pub pieces : ArePieces n starts askers
  pub lists : (o : ℕ) → o < n → HasAskers ws nodes o (piece starts askers o)

-- the nodes from the first on that ask for an operand were put behind others
abbrev pub AddsAskers : ℕ → List ℕ → List Asker → List Asker → List Asker → Type 0
AddsAskers first nexts nodes old new = (own : List Asker) × (new ≡ old ++ own) × ((ws : List (Option ℕ)) (o : ℕ) → length ws ≡ length nexts → IsNext ws o 0 first
    → ((m p : ℕ) → Wants ws m p → IsNext ws p (suc m) (slice_index nexts m)) → HasAskers ws nodes o own)

-- node i of condition j, whose code starts at a place and has so many steps
abbrev pub asker_at : List Step → List Link → ℕ → ℕ → ℕ → ℕ → Asker
asker_at steps links first size j i =
    record { term = j; first = first; link = link_at links (first + i); node = i; size = size; test = test_of (step_at steps (first + i)).node }

-- the nodes of conditions one behind another, by where each starts
abbrev pub AreNodes : List ℕ → List Step → List Link → List Asker → Type 0
AreNodes starts steps links nodes = (j i : ℕ) → suc j < length starts → slice_index starts j + i < slice_index starts (suc j)
    → slice_get nodes (slice_index starts j + i)
    ≡ Some (asker_at steps links (slice_index starts j) (slice_index starts (suc j) - slice_index starts j) j i)
