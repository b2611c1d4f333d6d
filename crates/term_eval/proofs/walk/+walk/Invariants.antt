use Rattle.std.proofs.Common.{◌≡◌, ◌+◌, ◌-◌, ◌^◌, ◌≤◌, min, ℕ, List, length, drop}
use Rattle.ecam_spec.specs.TermSize.{slots_of, nodes_of}
use Rattle.ecam_spec.specs.TermNames.{AreWithin}
use Rattle.term_tree.specs.View.{trees_of}
use Rattle.term_eval.specs.declared.memory.Cell.{Cell}
use Rattle.term_eval.specs.CellWords.{never}
use Rattle.term_eval.specs.Slots.{wakes_of, cells_of, owners_of}
use Rattle.term_eval.specs.Steps.{StepsAll}
use Rattle.term_eval.proofs.walk.+walk.Given as goal

-- What is left begins at `next`, and once it is stepped from here, all is stepped.
abbrev pub invariant-step_each-loop-member : goal.invariant-step_each-loop-member
invariant-step_each-loop-member l = record {
  place : l.next + slots_of (trees_of (drop l.member-index l.members)) ≡ l.initial.next + slots_of (trees_of l.members);
  names : AreWithin (length l.env.values.now) (length l.env.active.now) (trees_of (drop l.member-index l.members));
  few : l.count ≤ l.member-index;
  counted : min (l.visits + nodes_of (trees_of (drop l.member-index l.members))) (2 ^ 64 - 1)
      ≡ min (l.initial.visits + nodes_of (trees_of l.members)) (2 ^ 64 - 1);
  most : l.visits ≤ 2 ^ 64 - 1;
  wakes : wakes_of l.kept ≡ wakes_of l.initial.kept;
  owners : owners_of l.kept ≡ owners_of l.initial.kept;
  latest : l.due ≤ never;
  ahead : (final : List Cell) (rest later : ℕ) → later ≤ never
      → StepsAll l.env l.now (trees_of (drop l.member-index l.members)) l.next (cells_of l.kept) final rest later
      → StepsAll l.env l.now (trees_of l.members) l.initial.next (cells_of l.initial.kept) final (l.count + rest) (min l.due later);
}
