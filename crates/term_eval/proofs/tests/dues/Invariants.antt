use Rattle.std.proofs.Common.{◌≡◌, length}
use Rattle.term_eval.proofs.tests.dues.Given as goal

abbrev pub invariant-loop-moment : goal.invariant-loop-moment
invariant-loop-moment l = length l.cells.slots ≡ 2
