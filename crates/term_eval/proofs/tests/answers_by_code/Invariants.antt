use Rattle.std.proofs.Common.{◌≡◌, length}
use Rattle.term_eval.specs.Code.{owners}
use Rattle.term_eval.specs.Linked.{AreOwned}
use Rattle.term_eval.proofs.tests.answers_by_code.Given as goal

abbrev pub invariant-loop-moment : goal.invariant-loop-moment
invariant-loop-moment l = record {
  cells : length l.cells.slots ≡ 2;
  states : length l.cells.nodes.states ≡ length l.steps.items;
  wakes : length l.cells.nodes.wakes ≡ 2;
  owners : AreOwned l.cells.owners 0 (owners 0 l.steps.items);
}
