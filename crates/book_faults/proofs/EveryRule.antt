-- What is so of a search for one rule, or for every rule at once.
use Rattle.std.proofs.Common.{◌≡◌, ℕ, Result, IfOk, Bool, true, false, ◌||◌, List, [], ◌∷◌, refl, ap, sym, ◌∙◌, arith}
use Rattle.std.specs.List.{list_any}
use Rattle.std.proofs.lemmas.List.Folds.{list_any-append}
use Rattle.std.proofs.lemmas.Bool.{or_parts}
use Rattle.std.proofs.lemmas.Result.{IfOk-weaker}
use Rattle.toml.specs.Data.{Data, Members, get_member}
use Rattle.ecam_spec.specs.TermText.{Outcome, syntax_error, unknown, number_error, too_deep, too_large, means}
use Rattle.book_spec.specs.Schema.{Key}
use Rattle.book_spec.specs.TableRules.{keys_break, if_there, table_breaks, list_breaks, inner_breaks, shape_breaks}
use Rattle.book_spec.specs.declared.schema.Inner.{Inner}
use Rattle.book_spec.specs.declared.schema.Shape.TheVariants.{Tables}
use Rattle.book_spec.specs.Rules.{Names, members_of, leaf_breaks, is_misspelled, has_unknown, is_too_much, has_wrong_number}
use Rattle.book_spec.specs.declared.schema.Leaf.{Leaf}
use Rattle.book_spec.specs.declared.schema.Rule.{Rule}
use Rattle.book_spec.specs.declared.schema.Rule.TheVariants as rules
use Rattle.book_spec.proofs.KeyFacts.{none_so}
use Rattle.book_faults.specs.declared.rules.Asked.{Asked}
use Rattle.book_faults.specs.declared.rules.Asked.TheVariants.{One, Every, Unread}
use Rattle.book_faults.specs.Asked.{any_asked, every_rule, rules_but_read, unread_rules, read_rules, keys_fail, list_fails, leaf_fails, inner_fails, shape_fails}
use Rattle.book_faults.specs.Refused.{refuses}
use Rattle.book_faults.proofs.ReadRules.{never_any, ReadRule, spelled, found, small, measured, rule_of}

-- ---- tests on the elements of lists

or_shuffle : (a b c d : Bool) → ((a || b) || (c || d)) ≡ ((a || c) || (b || d))
or_shuffle true b c d = refl
or_shuffle false true true d = refl
or_shuffle false true false d = refl
or_shuffle false false c d = refl

pub any_or : {X : Type 0} (p q : X → Bool) (xs : List X) → list_any (λ x. p x || q x) xs ≡ (list_any p xs || list_any q xs)
any_or p q [] = refl
any_or p q (x ∷ xs) = ap (λ b. (p x || q x) || b) (any_or p q xs) ∙ or_shuffle (p x) (q x) (list_any p xs) (list_any q xs)

-- the elements of two lists may be gone through in either order
either_order : {A X : Type 0} (q : A → X → Bool) (rs : List A) (xs : List X) → list_any (λ r. list_any (q r) xs) rs ≡ list_any (λ x. list_any (λ r. q r x) rs) xs
either_order q [] xs = sym (never_any xs)
either_order q (r ∷ rs) xs =
    ap (λ b. list_any (q r) xs || b) (either_order q rs xs) ∙ sym (any_or (q r) (λ x. list_any (λ s. q s x) rs) xs)

-- ---- what is asked for

-- what breaks a rule by itself, and what does among several
each_or : {X : Type 0} (p : Rule → Bool) (q : Rule → X → Bool) (rs : List Rule) (xs : List X)
    → list_any (λ rule. p rule || list_any (q rule) xs) rs ≡ (list_any p rs || list_any (λ x. list_any (λ rule. q rule x) rs) xs)
each_or p q rs xs = any_or p (λ rule. list_any (q rule) xs) rs ∙ ap (λ b. list_any p rs || b) (either_order q rs xs)

asked_or : {X : Type 0} (asked : Asked) (p : Rule → Bool) (q : Rule → X → Bool) (xs : List X)
    → any_asked asked (λ rule. p rule || list_any (q rule) xs) ≡ (any_asked asked p || list_any (λ x. any_asked asked (λ rule. q rule x)) xs)
asked_or (One rule) p q xs = refl
asked_or Every p q xs = each_or p q every_rule xs
asked_or Unread p q xs = each_or p q rules_but_read xs

-- the keys of a table, and what they hold
pub keys_or_values : {S : Type 0} (asked : Asked) (breaks : Rule → S → Data → Bool) (keys : List (Key S)) (table : Members)
    → any_asked asked (λ rule. table_breaks (breaks rule) rule keys table)
    ≡ (keys_fail asked keys table || list_any (λ k. any_asked asked (λ rule. if_there (breaks rule k.holds) (get_member k.name table))) keys)
keys_or_values asked breaks keys table =
    asked_or asked (λ rule. keys_break rule keys table) (λ rule k. if_there (breaks rule k.holds) (get_member k.name table)) keys

-- a list of tables, and its members
pub list_or_members : (names : Names) (asked : Asked) (inner : Inner) (low high : ℕ) (value : Data) → shape_fails names asked (Tables inner low high) value
    ≡ (list_fails asked low high value || list_any (inner_fails names asked inner) (members_of value))
unfolding shape_breaks
list_or_members names asked inner low high value =
    asked_or asked (λ rule. list_breaks rule low high value) (λ rule. inner_breaks names rule inner) (members_of value)

-- where the first of two isn't broken, what is told of the second is told of both
pub of_both : {E : Type 0} (result : Result Bool E) (both first second : Bool) → both ≡ (first || second) → first ≡ false
    → IfOk result (λ b. b ≡ second) → IfOk result (λ b. b ≡ both)
of_both result both first second is none = IfOk-weaker result (λ b. b ≡ second) (λ b. b ≡ both) (λ b h. h ∙ sym (is ∙ ap (λ u. u || second) none))

-- where none of those is broken for which no condition is read, nor one of the others, none is
module _ (is_so : Rule → Bool) (none : list_any is_so rules_but_read ≡ false) (read : (r : ReadRule) → is_so (rule_of r) ≡ false) where
  pub not_any : (rule : Rule) → is_so rule ≡ false
  not_any rules.Known = none_so is_so rules_but_read none 0 rules.Known (omega arith)
  not_any rules.Needed = none_so is_so rules_but_read none 1 rules.Known (omega arith)
  not_any rules.Typed = none_so is_so rules_but_read none 2 rules.Known (omega arith)
  not_any rules.Named = none_so is_so rules_but_read none 3 rules.Known (omega arith)
  not_any rules.Written = none_so is_so rules_but_read none 4 rules.Known (omega arith)
  not_any rules.Ranged = none_so is_so rules_but_read none 5 rules.Known (omega arith)
  not_any rules.Counted = none_so is_so rules_but_read none 6 rules.Known (omega arith)
  not_any rules.Worded = none_so is_so rules_but_read none 7 rules.Known (omega arith)
  not_any rules.Labelled = none_so is_so rules_but_read none 8 rules.Known (omega arith)
  not_any rules.Paged = none_so is_so rules_but_read none 9 rules.Known (omega arith)
  not_any rules.Grouped = none_so is_so rules_but_read none 10 rules.Known (omega arith)
  not_any rules.Spelled = read spelled
  not_any rules.Found = read found
  not_any rules.Small = read small
  not_any rules.Measured = read measured

not_read : (is_so : Rule → Bool) → list_any is_so read_rules ≡ false → (r : ReadRule) → is_so (rule_of r) ≡ false
not_read is_so none spelled = none_so is_so read_rules none 0 rules.Known (omega arith)
not_read is_so none found = none_so is_so read_rules none 1 rules.Known (omega arith)
not_read is_so none small = none_so is_so read_rules none 2 rules.Known (omega arith)
not_read is_so none measured = none_so is_so read_rules none 3 rules.Known (omega arith)

-- where no rule is broken, none of them is
pub not_one : (is_so : Rule → Bool) → list_any is_so every_rule ≡ false → (rule : Rule) → is_so rule ≡ false
not_one is_so none rule =
    let parts = or_parts (list_any is_so rules_but_read) (list_any is_so read_rules) (sym (list_any-append is_so rules_but_read read_rules) ∙ none) in
    not_any is_so parts.0 (λ r. not_read is_so parts.1 r) rule

-- ---- values without tables

-- for none of those a condition is read
pub unread_alone : (names : Names) (leaf : Leaf) (value : Data) → leaf_fails names Unread leaf value ≡ list_any (λ rule. leaf_breaks names rule leaf value) unread_rules
unfolding leaf_breaks
unread_alone names leaf value = refl

-- such a value keeps the rules of keys, whatever it is
pub unread_or_read : (names : Names) (leaf : Leaf) (value : Data) → leaf_fails names Every leaf value
    ≡ (list_any (λ rule. leaf_breaks names rule leaf value) unread_rules || list_any (λ rule. leaf_breaks names rule leaf value) read_rules)
unfolding leaf_breaks
unread_or_read names leaf value = list_any-append (λ rule. leaf_breaks names rule leaf value) unread_rules read_rules

-- what refuses a condition is one of the rules for which it is read
pub refused_once : (o : Outcome) → (is_misspelled o || ((has_unknown o || false) || (is_too_much o || (has_wrong_number o || false)))) ≡ refuses o
refused_once (syntax_error at) = refl
refused_once (unknown at) = refl
refused_once (number_error at) = refl
refused_once too_deep = refl
refused_once too_large = refl
refused_once (means tree) = refl
