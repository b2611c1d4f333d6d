-- The document whose names a catalogue finds, and the names that are known in one of its conditions.
use Rattle.std.specs.Prelude.{◌≡◌}
use Rattle.toml.specs.Data.{Members}
use Rattle.toml.specs.View.{table_view}
use Rattle.ecam_spec.specs.TermText.{TermNames}
use Rattle.term_tree.specs.View.{named_terms}
use Rattle.book_spec.specs.Rules.{Names}
use Rattle.book_spec.specs.Document.{names_with}
use Rattle.book_spec.specs.Document as document
use Rattle.book_tables.specs.declared.names.Scope.{Scope}
use Rattle.book_tables.specs.declared.catalogue.Catalogue.{Catalogue}

abbrev pub table_in : Catalogue → Members
table_in c = table_view c.places.top.now

-- it has all named conditions of its document
abbrev pub IsComplete : Catalogue → Type 0
IsComplete c = named_terms c.terms.items ≡ document.named_terms (table_in c)

-- all names but those of conditions, and these named conditions
abbrev pub names_in : Scope → Names
names_in s = names_with (table_view s.places.now.top.now) (named_terms s.terms.now)

abbrev pub term_names_in : Scope → TermNames
term_names_in s = (names_in s).of_terms
