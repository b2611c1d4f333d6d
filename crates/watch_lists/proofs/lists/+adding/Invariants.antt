use Rattle.std.proofs.Common.{◌≡◌, ℕ, List, length, drop}
use Rattle.ecam_spec.specs.TermNames.{AreWithin}
use Rattle.term_tree.specs.View.{trees_of}
use Rattle.watch_lists.specs.Naming.{some_name}
use Rattle.watch_lists.specs.Listed.{items_of, Adds}
use Rattle.watch_lists.proofs.lists.+adding.Given as goal

-- what names the members that are left
abbrev pub invariant-add_each-loop-member : goal.invariant-add_each-loop-member
invariant-add_each-loop-member l = record {
  long : length l.lists.items ≡ length l.initial.lists.items;
  within : AreWithin l.sizes.params l.sizes.alerts (trees_of (drop l.member-index l.members));
  ahead : (final : List (List ℕ)) → Adds l.term (some_name l.sizes (trees_of (drop l.member-index l.members))) (items_of l.lists.items) final
      → Adds l.term (some_name l.sizes (trees_of l.members)) (items_of l.initial.lists.items) final;
}
