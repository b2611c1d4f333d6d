use Rattle.std.proofs.Common.{◌-◌, length}
use Rattle.condition_codes.proofs.Walked.{IsWalked}
use Rattle.condition_codes.proofs.chains.add_chain.Given as goal

abbrev pub invariant-loop-node : goal.invariant-loop-node
invariant-loop-node l = IsWalked l.first l.node l.nexts l.nodes l.initial.askers.items l.askers.items

abbrev pub decreases-loop-node : goal.decreases-loop-node
decreases-loop-node l = length l.nexts - l.node
