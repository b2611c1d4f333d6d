-- The rules that the tables of a document keep, and what their keys hold.
use Rattle.std.specs.Prelude.{ℕ, Bool, false, not, ◌&&◌, ◌||◌, List, map, Option, Some, None, is_none}
use Rattle.std.specs.List.{list_any}
use Rattle.toml.specs.Data.{Data, Members, get_member, as_array, as_table}
use Rattle.book_spec.specs.Fields.{has_only}
use Rattle.book_spec.specs.Schema.{Key, inner_keys, item_keys}
use Rattle.book_spec.specs.Rules.{Names, members_of, has_wrong_count, leaf_breaks}
use Rattle.book_spec.specs.declared.schema.Inner.{Inner}
use Rattle.book_spec.specs.declared.schema.Shape.{Shape}
use Rattle.book_spec.specs.declared.schema.Shape.TheVariants.{Leaf, Tables}
use Rattle.book_spec.specs.declared.schema.Item.{Item}
use Rattle.book_spec.specs.declared.schema.Rule.{Rule}
use Rattle.book_spec.specs.declared.schema.Rule.TheVariants.{Known, Needed, Typed, Counted}

-- no table, where one is listed, breaks the rule of types
abbrev pub is_no_table : Rule → Data → Bool
is_no_table Typed value = is_none (as_table value)
is_no_table _ value = false

-- a list of so many to so many members: its type, and its length
abbrev pub list_breaks : Rule → ℕ → ℕ → Data → Bool
list_breaks Typed low high value = is_none (as_array value)
list_breaks Counted low high value = has_wrong_count low high value
list_breaks _ low high value = false

-- the keys of a table: each is listed, and each that is needed is there
abbrev pub keys_break : {S : Type 0} → Rule → List (Key S) → Members → Bool
keys_break Known keys table = not (has_only (map (λ k. k.name) keys) table)
keys_break Needed keys table = list_any (λ k. k.needed && is_none (get_member k.name table)) keys
keys_break _ keys table = false

-- a value that is there is so
abbrev pub if_there : (Data → Bool) → Option Data → Bool
if_there is_so None = false
if_there is_so (Some value) = is_so value

-- a table with these keys, where `breaks` tells of what a key holds
abbrev pub table_breaks : {S : Type 0} → (S → Data → Bool) → Rule → List (Key S) → Members → Bool
table_breaks breaks rule keys table =
    keys_break rule keys table || list_any (λ k. if_there (breaks k.holds) (get_member k.name table)) keys

-- a value that is a table is so
abbrev pub if_table : (Members → Bool) → Data → Bool
if_table is_so value = elim (as_table value) [ None ↦ false | Some table ↦ is_so table ]

module _ (names : Names) where
  -- a table inside an item breaks a rule
  unfoldable pub inner_breaks : Rule → Inner → Data → Bool
  inner_breaks rule inner value =
      is_no_table rule value || if_table (λ table. table_breaks (leaf_breaks names rule) rule (inner_keys inner table) table) value

  -- what a key of an item holds breaks a rule
  unfoldable pub shape_breaks : Rule → Shape → Data → Bool
  shape_breaks rule (Leaf leaf) value = leaf_breaks names rule leaf value
  shape_breaks rule (Tables inner low high) value = list_breaks rule low high value || list_any (inner_breaks rule inner) (members_of value)

  -- an item, or the table of the flight phase, breaks a rule
  unfoldable pub item_breaks : Rule → Item → Data → Bool
  item_breaks rule item value =
      is_no_table rule value || if_table (λ table. table_breaks (shape_breaks rule) rule (item_keys item table) table) value
