use Rattle.std.proofs.Common.{◌≡◌, false, take}
use Rattle.std.specs.List.{list_any}
use Rattle.toml.specs.View.{view}
use Rattle.book_faults.specs.Asked.{inner_fails}
use Rattle.book_tables.specs.Catalogue.{names_in}
use Rattle.book_faults.proofs.tables.any_inner_breaks.Given as goal

abbrev pub invariant-loop-value : goal.invariant-loop-value
invariant-loop-value l = list_any (λ v. inner_fails (names_in l.names) l.asked l.inner (view v)) (take l.value-index l.values) ≡ false
