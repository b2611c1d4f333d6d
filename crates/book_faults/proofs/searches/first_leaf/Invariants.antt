use Rattle.std.proofs.Common.{◌≡◌}
use Rattle.toml.specs.View.{view}
use Rattle.ecam_spec.specs.Faults.{first_item}
use Rattle.book_faults.specs.Asked.{leaf_fails}
use Rattle.book_tables.specs.Catalogue.{names_in}
use Rattle.book_tables.specs.Reading.{views}
use Rattle.book_faults.proofs.FirstItems.{first_after}
use Rattle.book_faults.proofs.searches.first_leaf.Given as goal

abbrev pub invariant-loop-i : goal.invariant-loop-i
invariant-loop-i l = first_item (λ i d. leaf_fails (names_in l.names) l.asked l.leaf d) (views l.values) ≡ first_after view (λ i d. leaf_fails (names_in l.names) l.asked l.leaf d) l.values l.i
