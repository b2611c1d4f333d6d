use Rattle.std.proofs.Common.{◌≡◌, length}
use Rattle.watch_lists.specs.Listed.{items_of, ListsNone}
use Rattle.watch_lists.proofs.book.no_lists.Given as goal

abbrev pub invariant-loop-place : goal.invariant-loop-place
invariant-loop-place l = record {
  count : length l.lists.items ≡ l._place;
  none : ListsNone (items_of l.lists.items);
}
