use Rattle.std.proofs.Common.{◌≡◌, List, length, ap, ◌∙◌, sym}
use Rattle.std.specs.Box.{boxed_slice_items}
use Rattle.std.specs.Vec.{with_items}
use Rattle.std.proofs.lemmas.List.{with_items_is}
use Rattle.term_eval.specs.declared.slot.Slot.{Slot}
use Rattle.term_eval.specs.CellWords.{cell_at}
use Rattle.term_eval.specs.Slots.{wakes_of, cells_of}
use Rattle.term_eval.specs.Memory.{Memory, NodeMemory}
use Rattle.term_eval.proofs.Fresh.{blank-StandForNone}
use Rattle.term_eval.proofs.cells.Cells.clear.Goals as goal

-- the slots that are put back are those that were made
back : (c : goal.After-self-1) → (with_items c.self.inside.slots.items c.forget.new.slots).items ≡ c.forget.new.slots
back c = with_items_is c.self.inside.slots.items c.forget.new.slots (c.forget.auto.slots ∙ ap length c.deref_mut.ensures.value ∙ sym c.self.inside.slots.items.ok.0)

pub returns-clause-stands : goal.returns-clause-stands
returns-clause-stands c = blank-StandForNone _ (λ i. ap (λ l. cell_at (cells_of l) i) (back c) ∙ c.forget.ensures.cells i)

pub returns-clause-nodes : goal.returns-clause-nodes
returns-clause-nodes c =
    let of : List Slot → NodeMemory = λ l. record { states = boxed_slice_items c.self.inside.states; wakes = wakes_of l } in
    ap of (back c)
    ∙ ap (λ wakes. record { states = boxed_slice_items c.self.inside.states; wakes = wakes }) (c.forget.ensures.wakes ∙ ap wakes_of c.deref_mut.ensures.value)
    ∙ ap (λ (m : Memory). m.nodes) c.self.view_is
