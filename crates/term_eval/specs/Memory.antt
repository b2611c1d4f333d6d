-- What cells are: a slot for each temporal node, and how many nodes were visited; and what is kept of nodes: the state of
-- each, and for each slot when its node is to be looked at; and which node each slot is of.
use Rattle.std.specs.Prelude.{ℕ, List}
use Rattle.term_eval.specs.declared.memory.Cell.{Cell}
use Rattle.term_eval.specs.declared.nodes.NodeState.{NodeState}
use Rattle.term_eval.specs.declared.owner.Owner.{Owner}

pub record NodeMemory : Type 0 where
  pub states : List NodeState
  pub wakes : List ℕ

pub record Memory : Type 0 where
  pub slots : List Cell
  pub visits : ℕ
  pub nodes : NodeMemory
  pub owners : List Owner
