-- What is so of the keys of a table, and of the members of a list, that breaks no rule.
use Rattle.std.proofs.Common.{◌≡◌, ℕ, ◌≤◌, Bool, true, false, ◌&&◌, ◌||◌, List, [], ◌∷◌, length, Option, Some, None, refl, sym, subst, arith}
use Rattle.std.specs.Prelude.{is_none}
use Rattle.std.specs.List.{list_any, All}
use Rattle.std.proofs.lemmas.Bool.{or_parts, not-false}
use Rattle.std.proofs.lemmas.List.Elements.{All-cons, All-nil}
use Rattle.toml.specs.Data.{Data, array, table as a_table, Members, get_member, as_array, as_table}
use Rattle.ecam_spec.specs.Book.{Text}
use Rattle.ecam_spec.specs.Bytes.{is_between}
use Rattle.book_spec.specs.Schema.{Key, needs, may_have}
use Rattle.book_spec.specs.Rules.{Names, values, members_of, has_wrong_count, list_in}
use Rattle.book_spec.specs.TableRules.{is_no_table, list_breaks, keys_break, if_there, table_breaks, if_table, inner_breaks, shape_breaks}
use Rattle.book_spec.specs.Defaults.{table_in}
use Rattle.book_spec.specs.declared.schema.Inner.{Inner}
use Rattle.book_spec.specs.declared.schema.Shape.TheVariants.{Tables}
use Rattle.book_spec.specs.declared.schema.Rule.{Rule}
use Rattle.book_spec.specs.declared.schema.Rule.TheVariants.{Needed, Typed, Counted}
use Rattle.book_spec.proofs.FieldFacts.{between}

-- ---- lists

-- where no element passes a test, each fails it
pub none_so : {X : Type 0} (test : X → Bool) (xs : List X) → list_any test xs ≡ false → All (λ x. test x ≡ false) xs
none_so test [] h = All-nil (λ x. test x ≡ false)
none_so test (x ∷ xs) h =
    let parts = or_parts (test x) (list_any test xs) h in
    All-cons (λ y. test y ≡ false) x xs parts.0 (none_so test xs parts.1)

-- it breaks no rule
abbrev pub BreaksNone : {X : Type 0} → (Rule → X → Bool) → X → Type 0
BreaksNone breaks x = (rule : Rule) → breaks rule x ≡ false

pub each_breaks_none : {X : Type 0} (breaks : Rule → X → Bool) (xs : List X) → ((rule : Rule) → list_any (breaks rule) xs ≡ false) → All (BreaksNone breaks) xs
each_breaks_none breaks xs h = λ k d within rule. none_so (breaks rule) xs (h rule) k d within

-- how many members a list has
pub counted : (low high : ℕ) (value : Data) → is_none (as_array value) ≡ false → has_wrong_count low high value ≡ false
    → (low ≤ length (members_of value)) × (length (members_of value) ≤ high)
counted low high (array list) a h = between low high (length (values list)) (not-false (is_between low high (length (values list))) h)
counted low high _ a h = absurd (cc)

-- ---- tables

-- what breaks no rule is a table, and the table breaks none
pub table_there : (breaks : Rule → Members → Bool) (value : Data) → ((rule : Rule) → (is_no_table rule value || if_table (breaks rule) value) ≡ false)
    → (as_table value ≡ Some (table_in value)) × BreaksNone breaks (table_in value)
table_there breaks (a_table members) h = (refl, λ rule. (or_parts (is_no_table rule (a_table members)) (breaks rule members) (h rule)).1)
table_there breaks _ h = absurd (let e = h Typed in cc)

-- what is so of a key of a table that breaks no rule
pub record Keeps {S : Type 0} (breaks : Rule → S → Data → Bool) (table : Members) (key : Key S) : Type 0 where
  pub there : key.needed ≡ true → is_none (get_member key.name table) ≡ false
  pub keeps : (rule : Rule) → if_there (breaks rule key.holds) (get_member key.name table) ≡ false

needed_there : (needed missing : Bool) → (needed && missing) ≡ false → needed ≡ true → missing ≡ false
needed_there true missing h e = h
needed_there false missing h e = absurd (cc)

pub keys_kept : {S : Type 0} (breaks : Rule → S → Data → Bool) (keys : List (Key S)) (table : Members) → ((rule : Rule) → table_breaks (breaks rule) rule keys table ≡ false)
    → All (Keeps breaks table) keys
keys_kept {S} breaks keys table h =
    let values_of = λ (rule : Rule) (k : Key S). if_there (breaks rule k.holds) (get_member k.name table) in
    let missing = λ (k : Key S). k.needed && is_none (get_member k.name table) in
    let each : All (BreaksNone values_of) keys = each_breaks_none values_of keys (λ rule. (or_parts (keys_break rule keys table) (list_any (values_of rule) keys) (h rule)).1) in
    let none_missing : All (λ k. missing k ≡ false) keys = none_so missing keys (or_parts (keys_break Needed keys table) (list_any (values_of Needed) keys) (h Needed)).0 in
    λ k d within. record {
      there = needed_there _ _ (none_missing k d within);
      keeps = each k d within;
    }

-- what a key holds, where it holds something
pub value_kept : {S : Type 0} (breaks : Rule → S → Data → Bool) (table : Members) (key : Key S) → Keeps breaks table key
    → (value : Data) → get_member key.name table ≡ Some value → BreaksNone (λ rule. breaks rule key.holds) value
value_kept breaks table key k value found rule = subst (λ o. if_there (breaks rule key.holds) o ≡ false) found (k.keeps rule)

-- a value that a table has at a key
pub needed_value : {S : Type 0} (breaks : Rule → S → Data → Bool) (table : Members) (key : Key S) → Keeps breaks table key → key.needed ≡ true
    → (value : Data) × (get_member key.name table ≡ Some value) × BreaksNone (λ rule. breaks rule key.holds) value
needed_value breaks table key k needed =
    elim (get_member key.name table) as (λ o. get_member key.name table ≡ o → (value : Data) × (get_member key.name table ≡ Some value) × BreaksNone (λ rule. breaks rule key.holds) value) [
      | None ↦ λ e. absurd (let there = k.there needed in cc)
      | Some value ↦ λ e. (value, e, value_kept breaks table key k value e)
    ] refl

-- ---- lists of tables

module _ (names : Names) where
  -- a list of tables that breaks no rule has as many as it may, and each breaks none
  pub record KeepsTables (inner : Inner) (high : ℕ) (tables : List Data) : Type 0 where
    pub count : length tables ≤ high
    pub each_kept : All (BreaksNone (λ rule. inner_breaks names rule inner)) tables

  tables_kept : (inner : Inner) (low high : ℕ) (value : Data) → BreaksNone (λ rule. shape_breaks names rule (Tables inner low high)) value
      → KeepsTables inner high (members_of value) × (low ≤ length (members_of value))
  unfolding shape_breaks
  tables_kept inner low high value h =
      let of_list = λ (rule : Rule). or_parts (list_breaks rule low high value) (list_any (inner_breaks names rule inner) (members_of value)) (h rule) in
      let count = counted low high value (of_list Typed).0 (of_list Counted).0 in
      (record { count = count.1; each_kept = each_breaks_none (λ rule. inner_breaks names rule inner) (members_of value) (λ rule. (of_list rule).1) }, count.0)

  pub tables_in : (key : Text) (inner : Inner) (high : ℕ) (table : Members) → Keeps (shape_breaks names) table (may_have key (Tables inner 0 high)) → KeepsTables inner high (list_in key table)
  unfolding list_in
  tables_in key inner high table k =
      elim (get_member key table) as (λ o. get_member key table ≡ o → KeepsTables inner high (elim o as (λ x. List Data) [ None ↦ [] | Some value ↦ members_of value ])) [
        | None ↦ λ e. record { count = omega arith; each_kept = All-nil (BreaksNone (λ rule. inner_breaks names rule inner)) }
        | Some value ↦ λ e. (tables_kept inner 0 high value (value_kept (shape_breaks names) table (may_have key (Tables inner 0 high)) k value e)).0
      ] refl

  pub needed_tables : (key : Text) (inner : Inner) (low high : ℕ) (table : Members) → Keeps (shape_breaks names) table (needs key (Tables inner low high))
      → KeepsTables inner high (list_in key table) × (low ≤ length (list_in key table))
  unfolding list_in
  needed_tables key inner low high table k =
      let there = needed_value (shape_breaks names) table (needs key (Tables inner low high)) k refl in
      let P : Option Data → Type 0 = λ o.
      KeepsTables inner high (elim o as (λ x. List Data) [ None ↦ [] | Some value ↦ members_of value ])
      × (low ≤ length (elim o as (λ x. List Data) [ None ↦ [] | Some value ↦ members_of value ])) in
      subst P (sym there.1) (tables_kept inner low high there.0 there.2)
