use Rattle.std.proofs.Common.{◌≡◌, true, ◌++◌, List, take}
use Rattle.toml.specs.Data.{items_are_sorted}
use Rattle.toml.specs.View.{items_view, members_view}
use Rattle.toml.proofs.Views.{Entry, values_sorted}
use Rattle.book_migration.proofs.order.+order.Given as goal

abbrev pub invariant-go_through_array-items : goal.invariant-go_through_array-items
invariant-go_through_array-items l = items_are_sorted (items_view (take l.item-index l.item-items)) ≡ true

abbrev pub invariant-go_through_table-members : goal.invariant-go_through_table-members
invariant-go_through_table-members l =
    (goal.iterator-go_through_table-members).can_next l._key-iterator
    × (goal.iterator-go_through_table-members).is_finite l._key-iterator
    × (done : List Entry) × (l.table.entries ≡ done ++ l._key-iterator) × (values_sorted (members_view done) ≡ true)
