-- The slots that are lent of cells, as the cells are seen.
use Rattle.std.proofs.Common.{◌≡◌, ℕ, List, length, sym, ◌∙◌, ap}
use Rattle.std.proofs.lemmas.List.{length-map}
use Rattle.term_eval.specs.declared.nodes.NodeState.{NodeState}
use Rattle.term_eval.specs.declared.slot.Slot.{Slot}
use Rattle.term_eval.specs.Slots.{wakes_of, cells_of, owners_of}
use Rattle.term_eval.specs.Memory.{Memory}

pub record Seen (slots : List Slot) (m : Memory) : Type 0 where
  pub cells : cells_of slots ≡ m.slots
  pub wakes : wakes_of slots ≡ m.nodes.wakes
  pub owners : owners_of slots ≡ m.owners
  pub many_cells : length slots ≡ length m.slots
  pub many_wakes : length slots ≡ length m.nodes.wakes
  pub many_owners : length slots ≡ length m.owners

-- cells in which these slots and states stand
abbrev view : List Slot → List NodeState → ℕ → Memory
view slots states visits = record {
  slots = cells_of slots;
  visits = visits;
  nodes = record { states = states; wakes = wakes_of slots };
  owners = owners_of slots;
}

pub seen : (slots items : List Slot) (states : List NodeState) (visits : ℕ) (m : Memory) → slots ≡ items → view items states visits ≡ m → Seen slots m
seen slots items states visits m lent is =
    let cells = ap cells_of lent ∙ ap (λ (m : Memory). m.slots) is in
    let wakes = ap wakes_of lent ∙ ap (λ (m : Memory). m.nodes.wakes) is in
    let owners = ap owners_of lent ∙ ap (λ (m : Memory). m.owners) is in
    record {
      cells = cells;
      wakes = wakes;
      owners = owners;
      many_cells = sym (length-map slots (λ (s : Slot). s.cell)) ∙ ap length cells;
      many_wakes = sym (length-map slots (λ (s : Slot). s.wake)) ∙ ap length wakes;
      many_owners = sym (length-map slots (λ (s : Slot). s.owner)) ∙ ap length owners;
    }
