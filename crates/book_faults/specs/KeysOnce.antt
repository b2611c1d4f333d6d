-- What is wrong at one key of a table: it is needed and isn't there, or holds what breaks a rule that is asked for.
use Rattle.std.specs.Prelude.{Bool, true, false, ◌&&◌, ◌||◌, is_none}
use Rattle.toml.specs.Data.{Data, Members, get_member}
use Rattle.book_spec.specs.Schema.{Key}
use Rattle.book_spec.specs.TableRules.{if_there}
use Rattle.book_spec.specs.declared.schema.Rule.{Rule}
use Rattle.book_spec.specs.declared.schema.Rule.TheVariants as rules
use Rattle.book_faults.specs.declared.rules.Asked.{Asked}
use Rattle.book_faults.specs.Asked.{any_asked}

abbrev pub is_known : Rule → Bool
is_known rules.Known = true
is_known _ = false

abbrev pub is_needed : Rule → Bool
is_needed rules.Needed = true
is_needed _ = false

-- it is asked for that each key be listed, and that each that is needed be there
abbrev pub asks_known : Asked → Bool
asks_known asked = any_asked asked is_known

abbrev pub asks_needed : Asked → Bool
asks_needed asked = any_asked asked is_needed

module _ {S : Type 0} (asked : Asked) (breaks : Rule → S → Data → Bool) (table : Members) where
  abbrev pub value_fails : Key S → Bool
  value_fails k = any_asked asked (λ rule. if_there (breaks rule k.holds) (get_member k.name table))

  abbrev pub key_fails : Key S → Bool
  key_fails k = (asks_needed asked && (k.needed && is_none (get_member k.name table))) || value_fails k
