-- The keys of a table may be gone through once.
use Rattle.std.proofs.Common.{◌≡◌, Bool, true, false, not, ◌&&◌, ◌||◌, List, map, is_none, refl, ap, sym, ◌∙◌}
use Rattle.std.specs.List.{list_any}
use Rattle.toml.specs.Data.{Data, Members, get_member}
use Rattle.book_spec.specs.Fields.{has_only}
use Rattle.book_spec.specs.Schema.{Key}
use Rattle.book_spec.specs.declared.schema.Rule.{Rule}
use Rattle.book_spec.specs.declared.schema.Rule.TheVariants as rules
use Rattle.book_faults.specs.declared.rules.Asked.{Asked}
use Rattle.book_faults.specs.declared.rules.Asked.TheVariants.{One, Every, Unread}
use Rattle.book_faults.specs.Asked.{keys_fail, table_fails}
use Rattle.book_faults.specs.KeysOnce.{asks_known, asks_needed, value_fails, key_fails}
use Rattle.book_faults.proofs.EveryRule.{any_or, keys_or_values}

or_false : (a : Bool) → (a || false) ≡ a
or_false true = refl
or_false false = refl

known_or_needed : {S : Type 0} (asked : Asked) (keys : List (Key S)) (table : Members)
    → keys_fail asked keys table ≡ ((asks_known asked && not (has_only (map (λ k. k.name) keys) table))
    || (asks_needed asked && list_any (λ k. k.needed && is_none (get_member k.name table)) keys))
known_or_needed (One rules.Known) keys table = sym (or_false (not (has_only (map (λ k. k.name) keys) table)))
known_or_needed (One rules.Needed) keys table = refl
known_or_needed (One rules.Typed) keys table = refl
known_or_needed (One rules.Named) keys table = refl
known_or_needed (One rules.Written) keys table = refl
known_or_needed (One rules.Ranged) keys table = refl
known_or_needed (One rules.Counted) keys table = refl
known_or_needed (One rules.Worded) keys table = refl
known_or_needed (One rules.Labelled) keys table = refl
known_or_needed (One rules.Paged) keys table = refl
known_or_needed (One rules.Grouped) keys table = refl
known_or_needed (One rules.Spelled) keys table = refl
known_or_needed (One rules.Found) keys table = refl
known_or_needed (One rules.Small) keys table = refl
known_or_needed (One rules.Measured) keys table = refl
known_or_needed Every keys table = ap (λ b. not (has_only (map (λ k. k.name) keys) table) || b) (or_false (list_any (λ k. k.needed && is_none (get_member k.name table)) keys))
known_or_needed Unread keys table = ap (λ b. not (has_only (map (λ k. k.name) keys) table) || b) (or_false (list_any (λ k. k.needed && is_none (get_member k.name table)) keys))

-- two tests of each element are one
both_of : {X : Type 0} (a n : Bool) (p q : X → Bool) (xs : List X) → ((a || (n && list_any p xs)) || list_any q xs) ≡ (a || list_any (λ x. (n && p x) || q x) xs)
both_of true n p q xs = refl
both_of false true p q xs = sym (any_or p q xs)
both_of false false p q xs = refl

pub keys_once : {S : Type 0} (asked : Asked) (breaks : Rule → S → Data → Bool) (keys : List (Key S)) (table : Members)
    → table_fails asked breaks keys table
    ≡ ((asks_known asked && not (has_only (map (λ k. k.name) keys) table)) || list_any (key_fails asked breaks table) keys)
keys_once asked breaks keys table =
    keys_or_values asked breaks keys table
    ∙ (ap (λ b. b || list_any (value_fails asked breaks table) keys) (known_or_needed asked keys table)
    ∙ both_of (asks_known asked && not (has_only (map (λ k. k.name) keys) table)) (asks_needed asked) (λ k. k.needed && is_none (get_member k.name table)) (value_fails asked breaks table) keys)
