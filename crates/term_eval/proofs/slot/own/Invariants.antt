use Rattle.std.proofs.Common.{◌≡◌, ℕ, ◌<◌, ◌≤◌, ◌+◌, Some}
use Rattle.std.specs.List.{slice_get}
use Rattle.term_eval.specs.declared.owner.Owner.{Owner}
use Rattle.term_eval.specs.Slots.{wakes_of, cells_of, owners_of}
use Rattle.term_eval.proofs.slot.own.Given as goal

-- the first of the slots are of the first of the nodes, and nothing else of them is another
abbrev pub invariant-loop-i : goal.invariant-loop-i
invariant-loop-i l = record {
  owned : (j : ℕ) (o : Owner) → j < l.i → slice_get l.owners j ≡ Some o → slice_get (owners_of l.slots) (l.at + j) ≡ Some o;
  before : (j : ℕ) → j < l.at → slice_get (owners_of l.slots) j ≡ slice_get (owners_of l.fn.slots) j;
  behind : (j : ℕ) → l.at + l.i ≤ j → slice_get (owners_of l.slots) j ≡ slice_get (owners_of l.fn.slots) j;
  cells : cells_of l.slots ≡ cells_of l.fn.slots;
  wakes : wakes_of l.slots ≡ wakes_of l.fn.slots;
}
