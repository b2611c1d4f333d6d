use Rattle.std.proofs.Common.{rules}
use Rattle.toml.specs.View.{table_view}
use Rattle.book_tables.proofs.KnownTerms.{all_names}
use Rattle.book_tables.proofs.catalogue.Catalogue.all.Goals as goal

pub invariant_of-result : goal.invariant_of-result
invariant_of-result c = record {
  first = all_names (table_view c.args.self.now.places.top.now) c.as_slice.result.now (search (rules));
}
