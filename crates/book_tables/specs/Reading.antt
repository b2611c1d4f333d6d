-- What the reader's functions go through, seen by the definitions.
use Rattle.std.specs.Prelude.{ℕ, List, map, Option, codes}
use Rattle.std.specs.Borrow.{Bor}
use Rattle.ecam_spec.specs.Book.{Text}
use Rattle.toml.specs.Data.{Data, as_table}
use Rattle.book_spec.specs.Fields.{◌>>=◌, string_at}
use Rattle.toml.specs.View.{view}
use Rattle.toml.specs.declared.value.Value.{Value}

-- the texts that strings are
abbrev pub texts_of : List (Bor (List ℕ)) → List Text
texts_of strings = map (λ s. s.now) strings

-- the values that those of the program stand for
abbrev pub views : List Value → List Data
views values = map view values

-- the name that an item has
abbrev pub item_name : Data → Option Text
item_name value = as_table value >>= string_at (codes "name")
