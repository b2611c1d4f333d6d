-- What a key of a table holds, or what stands in its place where it is missing. These answer for every table, so that
-- they need no proof that a fault is absent.
use Rattle.std.specs.Prelude.{ℕ, Bool, true, false, List, [], length, fold, bit_or, codes, nat_le, Option, Some, None, unwrap_or}
use Rattle.std.specs.List.{filter_map}
use Rattle.toml.specs.Data.{Data, Members, no_members, get_member, as_str, as_integer, as_table}
use Rattle.ecam_spec.specs.declared.limits.TheConstants.{NAME}
use Rattle.ecam_spec.specs.declared.kinds.Level.{Level}
use Rattle.ecam_spec.specs.declared.kinds.Level.TheVariants.{One, Two, Three}
use Rattle.ecam_spec.specs.declared.kinds.Sound.{Sound}
use Rattle.ecam_spec.specs.declared.kinds.Sound.TheVariants.{Quiet, Chime, Repetitive}
use Rattle.ecam_spec.specs.Book.{Text, Tree, constant, NamedTerm}
use Rattle.ecam_spec.specs.TermNumber.{one_phase}
use Rattle.ecam_spec.specs.TermText.{Outcome, means}
use Rattle.book_spec.specs.Fields.{◌>>=◌, string_at, name_at, text_at, number_at, number_from}
use Rattle.book_spec.specs.Schema.{meaning}
use Rattle.book_spec.specs.Rules.{Names, list_in, outcome_in}

-- the table that a value is
abbrev pub table_in : Data → Members
table_in value = unwrap_or (as_table value) no_members

abbrev pub name_or_none : Members → Text
name_or_none table = unwrap_or (name_at (codes "name") table) []

abbrev pub text_or_none : ℕ → Text → Members → Text
text_or_none most key table = unwrap_or (text_at most key table) []

-- a whole number from the first to the second; the first where the key is missing
abbrev pub number_or_least : ℕ → ℕ → Text → Members → ℕ
number_or_least low high key table = unwrap_or (number_at low high key table) low

-- what the word at a key stands for
abbrev pub word_or : {A : Type 0} → A → List (Text × A) → Text → Members → A
word_or default list key table = unwrap_or (string_at key table >>= meaning list) default

-- the set of the phases in the list at a key
abbrev pub phase_from : Data → Option ℕ
phase_from value = as_integer value >>= number_from 1 10

unfoldable pub phases_at : Text → Members → ℕ
phases_at key table = fold (λ set p. bit_or set (one_phase p)) 0 (filter_map phase_from (list_in key table))

-- the tree that a condition's text means
abbrev pub tree_or : Tree → Option Outcome → Tree
tree_or default (Some (means tree)) = tree
tree_or default _ = default

unfoldable pub term_or : Bool → Names → Text → Members → Tree
term_or default names key table = tree_or (constant default) (get_member key table >>= outcome_in names)

-- the condition that an item names; one whose text means none stands for `true`
unfoldable pub named_in : Names → Data → NamedTerm
named_in names value =
    let table = table_in value in
    record { name = name_or_none table; tree = term_or true names (codes "when") table }

abbrev pub level_of : ℕ → Level
level_of n = elim (nat_le n 1) [ true ↦ One | false ↦ elim (nat_le n 2) [ true ↦ Two | false ↦ Three ] ]

-- the sound of an alert that names none
abbrev pub sound_of : Level → Sound
sound_of One = Quiet
sound_of Two = Chime
sound_of Three = Repetitive

-- a secondary's name; one that is longer than a name may be is no alert's, and stands as the empty one
abbrev pub short_name : Data → Text
short_name value = elim (as_str value) [ None ↦ [] | Some name ↦ elim (nat_le (length name) NAME) [ true ↦ name | false ↦ [] ] ]
