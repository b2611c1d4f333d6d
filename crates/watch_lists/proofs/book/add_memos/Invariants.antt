use Rattle.std.proofs.Common.{◌≡◌, ◌+◌, length}
use Rattle.book_model.specs.Sealed.{the_book}
use Rattle.book_model.specs.Conditions.{places, memos_from}
use Rattle.watch_lists.specs.Listed.{items_of, NextListed}
use Rattle.watch_lists.proofs.book.add_memos.Given as goal

abbrev pub invariant-loop-i : goal.invariant-loop-i
invariant-loop-i l = record {
  long : length l.lists.items ≡ length l.initial.lists.items;
  listed : NextListed l.sizes (places (the_book l.book)) (memos_from (the_book l.book)) (memos_from (the_book l.book) + l.i) (items_of l.initial.lists.items) (items_of l.lists.items);
}
