use Rattle.std.proofs.Common.{◌≡◌, min, max, ◌^◌, ◌<◌, ◌-◌, drop}
use Rattle.ecam_spec.specs.TermSize.{depth_of}
use Rattle.term_tree.specs.View.{trees_of}
use Rattle.term_tree.proofs.cond.+depth.Given as goal

-- the depth so far and that to come
abbrev pub invariant-greatest_depth-loop-member : goal.invariant-greatest_depth-loop-member
invariant-greatest_depth-loop-member l = record { sofar : min (max l.greatest (depth_of (trees_of (drop l.member-index l.members)))) (2 ^ 64 - 1) ≡ min (depth_of (trees_of l.members)) (2 ^ 64 - 1); fits : l.greatest < 2 ^ 64 }
