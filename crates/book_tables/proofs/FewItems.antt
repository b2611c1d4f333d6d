-- There are as many names as items.
use Rattle.std.proofs.Common.{◌≡◌, length, Some, refl}
use Rattle.std.proofs.lemmas.List.{length-map}
use Rattle.toml.specs.Data.{Data, Members, get_member}
use Rattle.ecam_spec.specs.Book.{Text}
use Rattle.book_spec.specs.Rules.{members_of, list_in}
use Rattle.book_spec.specs.Document.{names_in, term_names, system_texts, name_of, text_of}
use Rattle.book_spec.specs.Defaults.{table_in, name_or_none}
use Rattle.std.specs.Prelude.{codes}

pub name_count : (key : Text) (top : Members) → length (names_in key top) ≡ length (list_in key top)
name_count key top = length-map (list_in key top) name_of

pub system_count : (top : Members) → length (system_texts top) ≡ length (list_in (codes "systems") top)
system_count top = length-map (list_in (codes "systems") top) text_of

-- the members of a value at a key are those of the list there
pub few_members : (key : Text) (top : Members) (d : Data) → get_member key top ≡ Some d → length (list_in key top) ≡ length (members_of d)
unfolding list_in
few_members key top d is = rw (is, list_in) refl

pub term_count : (top : Members) → length (term_names top) ≡ length (list_in (codes "term") top)
term_count top = length-map (list_in (codes "term") top) (λ value. name_or_none (table_in value))
