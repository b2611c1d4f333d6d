use Rattle.std.proofs.Common.{◌≡◌, ℕ, ◌<◌}
use Rattle.term_eval.specs.declared.memory.Cell.TheVariants.{Off}
use Rattle.term_eval.specs.CellWords.{cell_at}
use Rattle.term_eval.specs.Slots.{wakes_of, cells_of, owners_of}
use Rattle.term_eval.proofs.slot.forget.Given as goal

-- the slots so far are off, and nothing else of them is another
abbrev pub invariant-loop-i : goal.invariant-loop-i
invariant-loop-i l = record {
  off : (j : ℕ) → j < l.i → cell_at (cells_of l.slots) j ≡ Off;
  wakes : wakes_of l.slots ≡ wakes_of l.fn.slots;
  owners : owners_of l.slots ≡ owners_of l.fn.slots;
}
