use Rattle.std.proofs.Common.{◌≡◌, ◌+◌, ◌-◌, ◌≤◌, ◌++◌, length, drop}
use Rattle.ecam_spec.specs.TermSize.{slots_of}
use Rattle.term_tree.specs.View.{trees_of}
use Rattle.term_eval.specs.Code.{codes, AreShort}
use Rattle.term_eval.proofs.code.+coding.Given as goal

-- What is left begins at `next`, and with its code all is coded.
abbrev pub invariant-add_nodes-loop-member : goal.invariant-add_nodes-loop-member
invariant-add_nodes-loop-member l = record {
  place : l.next + slots_of (trees_of (drop l.member-index l.members)) ≡ l.initial.next + slots_of (trees_of l.members);
  own : l.own + 1 ≤ length l.steps.items;
  code : l.steps.items ++ codes l.next (length l.steps.items - l.own) (trees_of (drop l.member-index l.members)) ≡ l.initial.steps.items ++ codes l.initial.next 1 (trees_of l.members);
  short : AreShort (trees_of (drop l.member-index l.members)) → AreShort (trees_of l.members);
}
