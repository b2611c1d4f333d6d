use Rattle.std.proofs.Common.{◌≡◌, ◌++◌, drop}
use Rattle.term_eval.specs.Code.{owners}
use Rattle.term_eval.proofs.owner.add_owners.Given as goal

-- with that of the steps that are left, it is that of all
abbrev pub invariant-loop-i : goal.invariant-loop-i
invariant-loop-i l = l.list.items ++ owners l.i (drop l.i l.steps) ≡ l.fn.list.items ++ owners 0 l.steps
