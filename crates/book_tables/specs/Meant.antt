-- Named conditions whose texts mean one.
use Rattle.std.specs.Prelude.{◌≡◌, ℕ, ◌<◌, true, length, get_or, codes, is_some, Option, Some, None}
use Rattle.toml.specs.Data.{Data, Members, get_member}
use Rattle.ecam_spec.specs.Book.{Tree}
use Rattle.ecam_spec.specs.TermText.{Outcome, means}
use Rattle.book_spec.specs.Fields.{◌>>=◌}
use Rattle.book_spec.specs.Rules.{Names, list_in, outcome_in}
use Rattle.book_spec.specs.Defaults.{table_in}
use Rattle.book_spec.specs.Document.{names_at}
use Rattle.book_spec.specs.declared.schema.Item.TheVariants.{Term}

-- the tree that a text means, if it means one
abbrev pub meant : Option Outcome → Option Tree
meant (Some (means tree)) = Some tree
meant _ = None

-- that of the condition that an item names
abbrev pub meant_in : Names → Data → Option Tree
meant_in names value = meant (get_member (codes "when") (table_in value) >>= outcome_in names)

-- each named condition of a document means one, where those before it are known
abbrev pub AreMeant : Members → Type 0
AreMeant top = (i : ℕ) → i < length (list_in (codes "term") top) → (d : Data)
    → is_some (meant_in (names_at top Term i) (get_or (list_in (codes "term") top) i d)) ≡ true
