use Rattle.std.proofs.Common.{◌≡◌}
use Rattle.toml.specs.View.{view}
use Rattle.ecam_spec.specs.Faults.{first_item}
use Rattle.book_spec.specs.Document.{names_at}
use Rattle.book_faults.specs.Asked.{item_fails}
use Rattle.book_tables.specs.Catalogue.{table_in}
use Rattle.book_tables.specs.Reading.{views}
use Rattle.book_faults.proofs.FirstItems.{first_after}
use Rattle.book_faults.proofs.searches.first_table.Given as goal

abbrev pub invariant-loop-i : goal.invariant-loop-i
invariant-loop-i l =
    first_item (λ i d. item_fails (names_at (table_in l.names) l.item i) l.asked l.item d) (views l.values)
    ≡ first_after view (λ i d. item_fails (names_at (table_in l.names) l.item i) l.asked l.item d) l.values l.i
