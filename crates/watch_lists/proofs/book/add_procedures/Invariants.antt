use Rattle.std.proofs.Common.{◌≡◌, length}
use Rattle.book_model.specs.Sealed.{the_book}
use Rattle.book_model.specs.Conditions.{places}
use Rattle.watch_lists.specs.Naming.{line_number}
use Rattle.watch_lists.specs.Listed.{items_of, NextListed}
use Rattle.watch_lists.proofs.book.add_procedures.Given as goal

abbrev pub invariant-loop-alert : goal.invariant-loop-alert
invariant-loop-alert l = record {
  long : length l.lists.items ≡ length l.initial.lists.items;
  listed : NextListed l.sizes (places (the_book l.book)) (line_number l.book 0 0) (line_number l.book l.alert 0) (items_of l.initial.lists.items) (items_of l.lists.items);
}
