use Rattle.std.proofs.Common.{◌≡◌, min, ◌+◌, ◌^◌, ◌<◌, ◌-◌, drop}
use Rattle.ecam_spec.specs.TermSize.{nodes_of}
use Rattle.term_tree.specs.View.{trees_of}
use Rattle.term_tree.proofs.cond.+size.Given as goal

-- the nodes so far and those to come
abbrev pub invariant-sizes-loop-member : goal.invariant-sizes-loop-member
invariant-sizes-loop-member l = record { sofar : min (l.sum + nodes_of (trees_of (drop l.member-index l.members))) (2 ^ 64 - 1) ≡ min (nodes_of (trees_of l.members)) (2 ^ 64 - 1); fits : l.sum < 2 ^ 64 }
