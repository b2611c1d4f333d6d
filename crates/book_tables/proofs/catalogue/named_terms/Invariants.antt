use Rattle.std.proofs.Common.{◌≡◌, true, take}
use Rattle.toml.specs.View.{table_view}
use Rattle.term_tree.specs.View.{named_terms}
use Rattle.book_spec.specs.Document.{named_among}
use Rattle.book_tables.specs.Reading.{views}
use Rattle.book_tables.proofs.MeantTerms.{FirstMeant}
use Rattle.book_tables.proofs.catalogue.named_terms.Given as goal

abbrev pub invariant-loop-item : goal.invariant-loop-item
invariant-loop-item l = record {
  known : named_terms l.terms.items ≡ named_among (table_view l.places.top.now) (views (take l.item-index l.items));
  meant : l.are_meant ≡ true → FirstMeant (table_view l.places.top.now) (views l.items) l.item-index;
}
