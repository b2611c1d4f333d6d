-- A document of limits beside its book, as the reader goes through it.
use Rattle.std.specs.Prelude.{List, codes}
use Rattle.ecam_spec.specs.Book.{Text, Book}
use Rattle.book_model.specs.Sealed.{the_book}
use Rattle.toml.specs.Data.{Members}
use Rattle.toml.specs.View.{table_view}
use Rattle.book_spec.specs.Document.{names_in}
use Rattle.advisories.specs.declared.document.Document.{Document}

abbrev pub table_in : Document → Members
table_in d = table_view d.top.now

abbrev pub book_in : Document → Book
book_in d = the_book d.book.now

-- the names of its advisories
abbrev pub listed_names : Document → List Text
listed_names d = names_in (codes "advisory") (table_in d)
