use Rattle.std.proofs.Common.{◌≡◌, ◌≤◌, ◌+◌, length, drop}
use Rattle.term_eval.specs.CellWords.{never}
use Rattle.term_eval.specs.Slots.{wakes_of, cells_of, owners_of}
use Rattle.term_eval.specs.Begin.{ask_over, unasked_from}
use Rattle.term_eval.proofs.begin.ask_all.Given as goal

-- the nodes from here on were asked
abbrev pub invariant-loop-i : goal.invariant-loop-i
invariant-loop-i l = record {
  within : l.i ≤ length l.steps;
  nodes : length l.states ≡ length l.fn.states;
  slots : length l.slots ≡ length l.fn.slots;
  owners : owners_of l.slots ≡ owners_of l.fn.slots;
  over : record { states = l.states; wakes = wakes_of l.slots; cells = cells_of l.slots; due = l.due }
      ≡ ask_over l.env (l.first + l.i) (drop l.i l.steps)
      (record { states = unasked_from l.first (length l.steps) l.fn.states; wakes = wakes_of l.fn.slots; cells = cells_of l.fn.slots; due = never });
}

abbrev pub decreases-loop-i : goal.decreases-loop-i
decreases-loop-i l = l.i
