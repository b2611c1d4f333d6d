use Rattle.std.proofs.Common.{◌≡◌, ◌+◌, length}
use Rattle.book_model.specs.Sealed.{the_book}
use Rattle.book_model.specs.Conditions.{places, alerts_from}
use Rattle.watch_lists.specs.Listed.{items_of, NextListed}
use Rattle.watch_lists.proofs.book.add_alerts.Given as goal

abbrev pub invariant-loop-alert : goal.invariant-loop-alert
invariant-loop-alert l = record {
  long : length l.lists.items ≡ length l.initial.lists.items;
  listed : NextListed l.sizes (places (the_book l.book)) alerts_from (alerts_from + l.alert) (items_of l.initial.lists.items) (items_of l.lists.items);
}
