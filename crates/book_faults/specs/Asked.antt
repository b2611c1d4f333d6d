-- A search asks for one rule, for every rule at once, or for those for which no condition is read: what breaks a rule that
-- is asked for.
use Rattle.std.specs.Prelude.{ℕ, Bool, List, [], ◌∷◌, ◌++◌, Option}
use Rattle.std.specs.List.{list_any}
use Rattle.std.specs.Option.{option_or}
use Rattle.toml.specs.Data.{Data, Members}
use Rattle.ecam_spec.specs.Faults.{first_item, whole}
use Rattle.book_spec.specs.Schema.{Key}
use Rattle.book_spec.specs.Rules.{Names, members_of, leaf_breaks}
use Rattle.book_spec.specs.TableRules.{keys_break, list_breaks, table_breaks, inner_breaks, shape_breaks, item_breaks}
use Rattle.book_spec.specs.declared.schema.Leaf.{Leaf}
use Rattle.book_spec.specs.declared.schema.Inner.{Inner}
use Rattle.book_spec.specs.declared.schema.Shape.{Shape}
use Rattle.book_spec.specs.declared.schema.Item.{Item}
use Rattle.book_spec.specs.declared.schema.Rule.{Rule}
use Rattle.book_spec.specs.declared.schema.Rule.TheVariants as rules
use Rattle.book_faults.specs.declared.rules.Asked.{Asked}
use Rattle.book_faults.specs.declared.rules.Asked.TheVariants.{One, Every, Unread}

-- the rules of keys, those for which no condition is read, those for which one is, and all of them
abbrev pub key_rules : List Rule
key_rules = rules.Known ∷ rules.Needed ∷ []

abbrev pub unread_rules : List Rule
unread_rules =
    rules.Typed ∷ rules.Named ∷ rules.Written ∷ rules.Ranged ∷ rules.Counted ∷ rules.Worded ∷ rules.Labelled ∷ rules.Paged
    ∷ rules.Grouped ∷ []

abbrev pub read_rules : List Rule
read_rules = rules.Spelled ∷ rules.Found ∷ rules.Small ∷ rules.Measured ∷ []

abbrev pub every_rule : List Rule
every_rule = key_rules ++ unread_rules ++ read_rules

abbrev pub rules_but_read : List Rule
rules_but_read = key_rules ++ unread_rules

-- this is so of a rule that is asked for
abbrev pub any_asked : Asked → (Rule → Bool) → Bool
any_asked (One rule) is_so = is_so rule
any_asked Every is_so = list_any is_so every_rule
any_asked Unread is_so = list_any is_so rules_but_read

module _ (asked : Asked) where
  -- the keys of a table break a rule that is asked for
  abbrev pub keys_fail : {S : Type 0} → List (Key S) → Members → Bool
  keys_fail keys table = any_asked asked (λ rule. keys_break rule keys table)

  -- a list of so many to so many members
  abbrev pub list_fails : ℕ → ℕ → Data → Bool
  list_fails low high value = any_asked asked (λ rule. list_breaks rule low high value)

  -- where a list of at most so many items does, whose items break a rule so, by their places
  abbrev pub place_in_list : ℕ → (ℕ → Rule → Data → Bool) → Data → Option ℕ
  place_in_list most breaks value =
      option_or (whole (list_fails 0 most value)) (first_item (λ i d. any_asked asked (λ rule. breaks i rule d)) (members_of value))

  -- a table with these keys does, where `breaks` tells of what a key holds
  abbrev pub table_fails : {S : Type 0} → (Rule → S → Data → Bool) → List (Key S) → Members → Bool
  table_fails breaks keys table = any_asked asked (λ rule. table_breaks (breaks rule) rule keys table)

module _ (names : Names) (asked : Asked) where
  -- a value of a leaf does
  abbrev pub leaf_fails : Leaf → Data → Bool
  leaf_fails leaf value = any_asked asked (λ rule. leaf_breaks names rule leaf value)

  -- a table inside an item
  abbrev pub inner_fails : Inner → Data → Bool
  inner_fails inner value = any_asked asked (λ rule. inner_breaks names rule inner value)

  -- what a key of an item holds
  abbrev pub shape_fails : Shape → Data → Bool
  shape_fails shape value = any_asked asked (λ rule. shape_breaks names rule shape value)

  -- an item, or the table of the flight phase
  abbrev pub item_fails : Item → Data → Bool
  item_fails item value = any_asked asked (λ rule. item_breaks names rule item value)
