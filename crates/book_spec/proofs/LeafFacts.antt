-- What is so of the values that a table holds where it breaks no rule.
use Rattle.std.proofs.Common.{◌≡◌, ℕ, ◌+◌, ◌<◌, ◌≤◌, Bool, true, false, not, cond, ◌||◌, List, [], ◌∷◌, length, Option, Some, None, refl, sym, ap, subst, ◌∙◌, arith}
use Rattle.std.specs.Prelude.{is_none, unwrap_or, codes, nat_le, if◌then◌else◌}
use Rattle.std.specs.List.{list_any, position_from}
use Rattle.std.proofs.lemmas.Bool.{or_parts, and_parts, and_from, le-leb, not-false}
use Rattle.toml.specs.Data.{Data, string, Members, get_member, as_str, as_array}
use Rattle.ecam_spec.specs.Book.{Text}
use Rattle.ecam_spec.specs.BookText.{is_name, is_text}
use Rattle.ecam_spec.specs.Bytes.{same_text, is_between, place_of}
use Rattle.book_spec.specs.Fields.{◌>>=◌, passing, string_at, name_at, text_in, text_at}
use Rattle.book_spec.specs.Schema.{Key, needs, may_have}
use Rattle.book_spec.specs.Rules.{Names, members_of, string_fails, is_string, is_among, has_wrong_type, leaf_breaks, list_in}
use Rattle.book_spec.specs.TableRules.{shape_breaks}
use Rattle.book_spec.specs.Defaults.{name_or_none, text_or_none}
use Rattle.book_spec.specs.declared.schema.Leaf.{Leaf}
use Rattle.book_spec.specs.declared.schema.Leaf.TheVariants.{Name, System, Alerts}
use Rattle.book_spec.specs.declared.schema.Leaf.TheVariants as leaves
use Rattle.book_spec.specs.declared.schema.Shape.TheVariants as shapes
use Rattle.book_spec.specs.declared.schema.Rule.{Rule}
use Rattle.book_spec.specs.declared.schema.Rule.TheVariants.{Typed, Named, Written, Counted, Grouped}
use Rattle.book_spec.proofs.FieldFacts.{between}
use Rattle.book_spec.proofs.KeyFacts.{Keeps, BreaksNone, counted, value_kept, needed_value}

-- ---- strings

-- a value is a string that passes a test
pub record IsStringOf (test : Text → Bool) (value : Data) : Type 0 where
  pub text : Text
  pub is : as_str value ≡ Some text
  pub passes : test text ≡ true

pub string_of : (test : Text → Bool) (value : Data) → not (is_string value) ≡ false → string_fails test value ≡ false → IsStringOf test value
string_of test (string text) typed passed = record { text = text; is = refl; passes = not-false (test text) passed }
string_of test _ typed passed = absurd (cc)

-- ---- texts

-- a text that is short enough is so for each greater limit
pub text_wider : (most limit : ℕ) (text : Text) → most ≤ limit → is_text most text ≡ true → is_text limit text ≡ true
unfolding is_text
text_wider most limit text h e =
    let parts = and_parts (is_between 1 most (length text)) _ e in
    let long = between 1 most (length text) parts.0 in
    let wide = and_from (nat_le 1 (length text)) (nat_le (length text) limit) (le-leb 1 (length text) long.0) (le-leb (length text) limit (omega arith)) in
    and_from (is_between 1 limit (length text)) _ wide parts.1

-- what passes a test is kept
passing_kept : (test : Text → Bool) (text : Text) → test text ≡ true → passing test text ≡ Some text
passing_kept test text h = ap (λ b. if b then Some text else None) h

-- a text that is there is read, if it has its form
text_found : (test : Text → Bool) (value : Option Data) (text : Text) → (value >>= as_str) ≡ Some text → test text ≡ true
    → (value >>= (λ v. as_str v >>= passing test)) ≡ Some text
text_found test None text found passes = absurd (cc)
text_found test (Some (string s)) text found passes =
    let same : s ≡ text = cc in
    ap (λ t. passing test t) same ∙ passing_kept test text passes
text_found test (Some _) text found passes = absurd (cc)

-- a text that breaks no rule is read as it stands
pub text_value : (names : Names) (most : ℕ) (value : Data) → BreaksNone (λ rule. leaf_breaks names rule (leaves.Text most)) value
    → (unwrap_or (text_in most value) [] ≡ unwrap_or (as_str value) []) × (is_text most (unwrap_or (text_in most value) []) ≡ true)
unfolding leaf_breaks has_wrong_type text_in
text_value names most value h =
    let s = string_of (is_text most) value (h Typed) (h Written) in
    let found : (as_str value >>= passing (is_text most)) ≡ Some s.text = ap (λ o. o >>= passing (is_text most)) s.is ∙ passing_kept (is_text most) s.text s.passes in
    let read = ap (λ o. unwrap_or o []) found in
    (read ∙ ap (λ o. unwrap_or o []) (sym s.is), subst (λ t. is_text most t ≡ true) (sym read) s.passes)

-- ---- names

-- a name among names has a place
place_of_one : (test : Text → Bool) (i : ℕ) (names : List Text) → list_any test names ≡ true → unwrap_or (position_from test i names) 0 < i + length names
place_of_one test i [] h = absurd (cc)
place_of_one test i (n ∷ names) h =
    elim (test n) as (λ b. test n ≡ b → (b || list_any test names) ≡ true → unwrap_or (cond b (Some i) (position_from test (i + 1) names)) 0 < i + length (n ∷ names)) [
      | true ↦ λ e k. omega arith
      | false ↦ λ e k. omega (arith, place_of_one test (i + 1) names k)
    ] refl h

module _ (names : Names) (table : Members) where
  abbrev pub KeepsLeaf : Key Leaf → Type 0
  KeepsLeaf = Keeps (leaf_breaks names) table

  -- a leaf of an item's key
  pub leaf_of : (key : Text) (needed : Bool) (leaf : Leaf) → Keeps (shape_breaks names) table (record { name = key; needed = needed; holds = shapes.Leaf leaf }) → KeepsLeaf (record { name = key; needed = needed; holds = leaf })
  unfolding shape_breaks
  leaf_of key needed leaf k = record { there = k.there; keeps = k.keeps }

  -- a string that has to be there, at a leaf that one rule tests so
  string_there : (key : Text) (leaf : Leaf) (rule : Rule) (test : Text → Bool)
      → ((value : Data) → leaf_breaks names Typed leaf value ≡ not (is_string value))
      → ((value : Data) → leaf_breaks names rule leaf value ≡ string_fails test value)
      → KeepsLeaf (needs key leaf)
      → (text : Text) × (string_at key table ≡ Some text) × (test text ≡ true)
  unfolding string_at
  string_there key leaf rule test types tests k =
      let there = needed_value (leaf_breaks names) table (needs key leaf) k refl in
      let value = there.0 in
      let s = string_of test value (sym (types value) ∙ there.2 Typed) (sym (tests value) ∙ there.2 rule) in
      (s.text, ap (λ o. o >>= as_str) there.1 ∙ s.is, s.passes)

  pub text_kept : (most limit : ℕ) (key : Text) → most ≤ limit → KeepsLeaf (needs key (leaves.Text most)) → is_text limit (text_or_none limit key table) ≡ true
  unfolding leaf_breaks has_wrong_type text_at text_in string_at
  text_kept most limit key h k =
      let s = string_there key (leaves.Text most) Written (is_text most) (λ v. refl) (λ v. refl) k in
      let wide = text_wider most limit s.0 h s.2 in
      let found = text_found (is_text limit) (get_member key table) s.0 s.1 wide in
      subst (λ o. is_text limit (unwrap_or o []) ≡ true) (sym found) wide

  name_there : KeepsLeaf (needs (codes "name") Name) → (text : Text) × (string_at (codes "name") table ≡ Some text) × (is_name text ≡ true)
  unfolding leaf_breaks has_wrong_type
  name_there k = string_there (codes "name") Name Named is_name (λ v. refl) (λ v. refl) k

  name_read : (text : Text) → string_at (codes "name") table ≡ Some text → is_name text ≡ true → name_or_none table ≡ text
  unfolding name_at
  name_read text found h =
      ap (λ o. unwrap_or (o >>= passing is_name) []) found ∙ ap (λ o. unwrap_or o []) (passing_kept is_name text h)

  pub name_kept : KeepsLeaf (needs (codes "name") Name) → is_name (name_or_none table) ≡ true
  name_kept k = let s = name_there k in subst (λ t. is_name t ≡ true) (sym (name_read s.0 s.1 s.2)) s.2

  -- a name that has its form is the string that is there
  pub name_same : KeepsLeaf (needs (codes "name") Name) → name_or_none table ≡ unwrap_or (string_at (codes "name") table) []
  name_same k = let s = name_there k in name_read s.0 s.1 s.2 ∙ ap (λ o. unwrap_or o []) (sym s.1)

  pub system_kept : (key : Text) → KeepsLeaf (needs key System) → unwrap_or (string_at key table >>= place_of names.systems) 0 < length names.systems
  unfolding leaf_breaks has_wrong_type
  system_kept key k =
      let s = string_there key System Grouped (is_among names.systems) (λ v. refl) (λ v. refl) k in
      let place = place_of_one (same_text s.0) 0 names.systems s.2 in
      subst (λ o. unwrap_or (o >>= place_of names.systems) 0 < length names.systems) (sym s.1) (omega (arith, place))

  pub alerts_kept : (key : Text) → KeepsLeaf (may_have key Alerts) → length (list_in key table) ≤ 16
  unfolding leaf_breaks has_wrong_type list_in
  alerts_kept key k =
      elim (get_member key table) as (λ o. get_member key table ≡ o → length (elim o as (λ x. List Data) [ None ↦ [] | Some value ↦ members_of value ]) ≤ 16) [
        | None ↦ λ e. omega arith
        | Some value ↦ λ e.
            let kept = value_kept (leaf_breaks names) table (may_have key Alerts) k value e in
            (counted 0 16 value (or_parts (is_none (as_array value)) _ (kept Typed)).0 (kept Counted)).1
      ] refl
