use Rattle.std.proofs.Common.{◌≡◌, length}
use Rattle.term_eval.proofs.tests.hear.Given as goal

abbrev pub invariant-loop-node : goal.invariant-loop-node
invariant-loop-node l = record {
  states : length l.cells.nodes.states ≡ length l.fn.cells.nodes.states;
  wakes : length l.cells.nodes.wakes ≡ length l.fn.cells.nodes.wakes;
  slots : l.cells.slots ≡ l.fn.cells.slots;
  owners : l.cells.owners ≡ l.fn.cells.owners;
}
