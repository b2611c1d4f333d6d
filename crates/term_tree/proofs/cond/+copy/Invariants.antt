use Rattle.std.proofs.Common.{◌≡◌, map, take}
use Rattle.term_tree.specs.View.{tree_of}
use Rattle.term_tree.proofs.cond.+copy.Given as goal

-- the members that were copied are those at the front
abbrev pub invariant-copies-loop-member : goal.invariant-copies-loop-member
invariant-copies-loop-member l = map tree_of l.copies.items ≡ map tree_of (take l.member-index l.members)
