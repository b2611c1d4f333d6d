use Rattle.std.proofs.Common.{◌≡◌, length, take, slice_index}
use Rattle.watch_lists.specs.Listed.{items_of}
use Rattle.watch_lists.specs.Flat.{IsFlat}
use Rattle.watch_lists.proofs.watch.flatten.Given as goal

abbrev pub invariant-loop-list : goal.invariant-loop-list
invariant-loop-list l = record {
  flat : IsFlat (take l.list-index (items_of l.lists)) l.starts.items l.terms.items;
  ends : slice_index l.starts.items l.list-index ≡ length l.terms.items;
}
