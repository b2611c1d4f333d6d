use Rattle.std.proofs.Common.{◌≡◌, min, ◌+◌, ◌^◌, ◌<◌, ◌-◌, drop}
use Rattle.ecam_spec.specs.TermSize.{slots_of}
use Rattle.term_tree.specs.View.{trees_of}
use Rattle.term_tree.proofs.cond.+slots.Given as goal

-- the slots so far and those to come
abbrev pub invariant-slots_of_all-loop-member : goal.invariant-slots_of_all-loop-member
invariant-slots_of_all-loop-member l = record { sofar : min (l.sum + slots_of (trees_of (drop l.member-index l.members))) (2 ^ 64 - 1) ≡ min (slots_of (trees_of l.members)) (2 ^ 64 - 1); fits : l.sum < 2 ^ 64 }
