use Rattle.std.proofs.Common.{◌≡◌, ◌≤◌, ◌+◌, ℕ, List, length, take, drop}
use Rattle.term_eval.specs.declared.link.Link.{Link}
use Rattle.term_eval.specs.declared.owner.Owner.{Owner}
use Rattle.term_eval.specs.CellWords.{never}
use Rattle.term_eval.specs.Slots.{wakes_of, cells_of, owners_of}
use Rattle.term_eval.specs.Run.{Run, pass_over}
use Rattle.term_eval.proofs.run.pass.Given as goal

-- the last of the nodes have been gone through
pub record Passed (links : List Link) (first : ℕ) (owners : List Owner) (at now slot : ℕ) (old new : Run) : Type 0 where
  pub range : slot ≤ length owners
  pub is : new ≡ pass_over now links first (drop slot owners) (at + slot) old

-- and the slots are of the nodes that they were of
abbrev pub invariant-loop-slot : goal.invariant-loop-slot
invariant-loop-slot l = record {
  passed : Passed l.links l.first (take l.count (drop l.at (owners_of l.fn.slots))) l.at l.now l.slot
      (record { states = l.fn.states; wakes = wakes_of l.fn.slots; cells = cells_of l.fn.slots; due = never })
      (record { states = l.states; wakes = wakes_of l.slots; cells = cells_of l.slots; due = l.due });
  owners : owners_of l.slots ≡ owners_of l.fn.slots;
}

abbrev pub decreases-loop-slot : goal.decreases-loop-slot
decreases-loop-slot l = l.slot
