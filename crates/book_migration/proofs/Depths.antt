-- A document without a fault nests no deeper than five, and has no dates.
use Rattle.std.proofs.Common.{◌≡◌, ℕ, suc, ◌≤◌, Bool, true, false, ◌||◌, not, List, [], ◌∷◌, map, get_or, Option, Some, None, refl, sym, ap, subst, ◌∙◌, arith, inl, inr}
use Rattle.std.specs.Prelude.{codes, is_none}
use Rattle.std.specs.List.{list_any, list_all, All, AllByRecursion}
use Rattle.std.specs.Cmp.Lexicographic.{bytes_decides}
use Rattle.std.proofs.lemmas.Bool.{cases_Bool, and_parts, or_parts}
use Rattle.std.proofs.lemmas.List.Elements.{All-cons, All-nil, recursion_from_All}
use Rattle.toml.specs.Data.{Data, string, integer, array, table, Items, no_items, item, Members, no_members, member, get_member, as_integer, depth, has_valid_dates, is_sorted, items_are_sorted, members_are_sorted}
use Rattle.ecam_spec.specs.Book.{Text}
use Rattle.ecam_spec.specs.Bytes.{same_text}
use Rattle.ecam_spec.specs.declared.kinds.Section.{Section}
use Rattle.ecam_spec.specs.declared.kinds.Section.TheVariants as section
use Rattle.ecam_spec.specs.Faults.{whole}
use Rattle.book_spec.specs.Fields.{◌>>=◌, keys, has_only, number_at, number_from}
use Rattle.book_spec.specs.Schema.{Key, inner_keys, item_keys}
use Rattle.book_spec.specs.Rules.{Names, values, is_string, is_whole_number, is_no_list_of, has_wrong_type, leaf_breaks}
use Rattle.book_spec.specs.TableRules.{is_no_table, list_breaks, keys_break, table_breaks, inner_breaks, shape_breaks, item_breaks}
use Rattle.book_spec.specs.Document.{section_keys, top_keys, names_of, names_at, version, is_second, most_alerts, in_list, in_items, at_section, table_fault}
use Rattle.book_spec.specs.declared.schema.Leaf.{Leaf}
use Rattle.book_spec.specs.declared.schema.Leaf.TheVariants as leaves
use Rattle.book_spec.specs.declared.schema.Inner.{Inner}
use Rattle.book_spec.specs.declared.schema.Shape.{Shape}
use Rattle.book_spec.specs.declared.schema.Shape.TheVariants as shapes
use Rattle.book_spec.specs.declared.schema.Item.{Item}
use Rattle.book_spec.specs.declared.schema.Item.TheVariants as items
use Rattle.book_spec.specs.declared.schema.Rule.{Rule}
use Rattle.book_spec.specs.declared.schema.Rule.TheVariants as rules
use Rattle.book_spec.proofs.KeyFacts.{BreaksNone, Keeps, none_so, each_breaks_none, keys_kept, value_kept}
use Rattle.book_spec.proofs.FaultFree.{none_at, tests_none, sections_none, rule_none, item_rules, system_rules, list_kept}
use Rattle.book_migration.proofs.Found.{Each, each-weaker, each-both, found_each, sorted_each}

-- it nests no deeper than so, and its dates, if it has any, are dates
abbrev pub Shallow : ℕ → Data → Type 0
Shallow n d = (depth d ≤ n) × (has_valid_dates d ≡ true)

deeper : (n m : ℕ) (d : Data) → n ≤ m → Shallow n d → Shallow m d
deeper n m d more h = (omega (arith, h.0), h.1)

members_shallow : (n : ℕ) (ms : Members) → Each (λ k d. Shallow n d) ms → Shallow (suc n) (table ms)
members_shallow n no_members all = (omega arith, refl)
members_shallow n (member k d ms) all =
    let rest = members_shallow n ms all.1 in
    (omega (arith, all.0.0, rest.0), rw (all.0.1, rest.1) refl)

items_shallow : (n : ℕ) (ds : Items) → AllByRecursion (Shallow n) (values ds) → Shallow (suc n) (array ds)
items_shallow n no_items all = (omega arith, refl)
items_shallow n (item d ds) all =
    let rest = items_shallow n ds all.1 in
    (omega (arith, all.0.0, rest.0), rw (all.0.1, rest.1) refl)

array_shallow : (n : ℕ) (ds : Items) → All (Shallow n) (values ds) → Shallow (suc n) (array ds)
array_shallow n ds all = items_shallow n ds (recursion_from_All (Shallow n) (values ds) all)

sorted_items : (ds : Items) → items_are_sorted ds ≡ true → All (λ d. is_sorted d ≡ true) (values ds)
sorted_items no_items sorted = All-nil (λ d. is_sorted d ≡ true)
sorted_items (item d ds) sorted =
    let parts = and_parts (is_sorted d) (items_are_sorted ds) sorted in
    All-cons (λ e. is_sorted e ≡ true) d (values ds) parts.0 (sorted_items ds parts.1)

-- ---- values without tables

string_flat : (n : ℕ) (d : Data) → not (is_string d) ≡ false → Shallow n d
string_flat n (string s) h = (omega arith, refl)
string_flat n _ h = absurd (cc)

number_flat : (n : ℕ) (d : Data) → not (is_whole_number d) ≡ false → Shallow n d
number_flat n (integer z) h = (omega arith, refl)
number_flat n _ h = absurd (cc)

list_flat : (is_so : Data → Bool) → ((d : Data) → not (is_so d) ≡ false → Shallow 0 d) → (value : Data) → is_no_list_of is_so value ≡ false → Shallow 1 value
list_flat is_so one (array ds) h =
    let each = none_so (λ d. not (is_so d)) (values ds) h in
    array_shallow 0 ds (λ k d within. one (get_or (values ds) k d) (each k d within))
list_flat is_so one _ h = absurd (cc)

leaf_shallow : (names : Names) (leaf : Leaf) (d : Data) → leaf_breaks names rules.Typed leaf d ≡ false → Shallow 1 d
unfolding leaf_breaks has_wrong_type
leaf_shallow names (leaves.Number low high) d h = number_flat 1 d h
leaf_shallow names leaves.Phases d h = list_flat is_whole_number (number_flat 0) d h
leaf_shallow names leaves.Alerts d h = list_flat is_string (string_flat 0) d h
leaf_shallow names leaves.Name d h = string_flat 1 d h
leaf_shallow names (leaves.Text most) d h = string_flat 1 d h
leaf_shallow names leaves.Term d h = string_flat 1 d h
leaf_shallow names leaves.Label d h = string_flat 1 d h
leaf_shallow names (leaves.Word list) d h = string_flat 1 d h
leaf_shallow names leaves.Page d h = string_flat 1 d h
leaf_shallow names leaves.System d h = string_flat 1 d h
leaf_shallow names leaves.Parameter d h = string_flat 1 d h

-- ---- tables

-- a key of a table is one that is listed
listed : (known : List Text) (ms : Members) → has_only known ms ≡ true → Each (λ k d. list_any (same_text k) known ≡ true) ms
listed known no_members h = tt
listed known (member k d ms) h =
    let parts = and_parts (list_any (same_text k) known) (list_all (λ key. list_any (same_text key) known) (keys ms)) h in
    (parts.0, listed known ms parts.1)

not_true : (b : Bool) → not b ≡ false → b ≡ true
not_true true h = refl
not_true false h = absurd (cc)

module _ {S : Type 0} (breaks : Rule → S → Data → Bool) (n : ℕ) (bound : (holds : S) (d : Data) → is_sorted d ≡ true → BreaksNone (λ rule. breaks rule holds) d → Shallow n d) where
  key_shallow : (ms : Members) (ks : List (Key S)) → AllByRecursion (Keeps breaks ms) ks → (k : Text) (d : Data) → list_any (same_text k) (map (λ x. x.name) ks) ≡ true
      → get_member k ms ≡ Some d → is_sorted d ≡ true → Shallow n d
  key_shallow ms [] kept k d there found sorted = absurd (cc)
  key_shallow ms (x ∷ ks) kept k d there found sorted =
      elim (cases_Bool (same_text k x.name)) [
        | inl here ↦
            let same = (bytes_decides k x.name).0 here in
            bound x.holds d sorted (value_kept breaks ms x kept.0 d (ap (λ key. get_member key ms) (sym same) ∙ found))
        | inr other ↦ key_shallow ms ks kept.1 k d (ap (λ b. b || list_any (same_text k) (map (λ y. y.name) ks)) (sym other) ∙ there) found sorted
      ]

  table_shallow : (ks : List (Key S)) (ms : Members) → members_are_sorted ms ≡ true → ((rule : Rule) → table_breaks (breaks rule) rule ks ms ≡ false) → Shallow (suc n) (table ms)
  table_shallow ks ms sorted h =
      let kept = recursion_from_All (Keeps breaks ms) ks (keys_kept breaks ks ms h) in
      let only = not_true (has_only (map (λ k. k.name) ks) ms) (or_parts (keys_break rules.Known ks ms) _ (h rules.Known)).0 in
      let Known : Text → Data → Type 0 = λ k d. list_any (same_text k) (map (λ x. x.name) ks) ≡ true in
      let Found : Text → Data → Type 0 = λ k d. get_member k ms ≡ Some d in
      let Sorted : Text → Data → Type 0 = λ k d. is_sorted d ≡ true in
      let all = each-both Known (λ k d. Found k d × Sorted k d) ms (listed (map (λ k. k.name) ks) ms only) (each-both Found Sorted ms (found_each ms sorted) (sorted_each ms sorted)) in
      members_shallow n ms (each-weaker (λ k d. Known k d × (Found k d × Sorted k d)) (λ k d. Shallow n d) (λ k d so. key_shallow ms ks kept k d so.0 so.1.0 so.1.1) ms all)

module _ (names : Names) where
  inner_shallow : (part : Inner) (d : Data) → is_sorted d ≡ true → BreaksNone (λ rule. inner_breaks names rule part) d → Shallow 2 d
  unfolding inner_breaks
  inner_shallow part (table ms) sorted h =
      table_shallow (leaf_breaks names) 1 (λ leaf e s k. leaf_shallow names leaf e (k rules.Typed)) (inner_keys part ms) ms sorted
      (λ rule. (or_parts (is_no_table rule (table ms)) _ (h rule)).1)
  inner_shallow part _ sorted h = absurd (let e = h rules.Typed in cc)

  shape_shallow : (shape : Shape) (d : Data) → is_sorted d ≡ true → BreaksNone (λ rule. shape_breaks names rule shape) d → Shallow 3 d
  unfolding shape_breaks
  shape_shallow (shapes.Leaf leaf) d sorted h = deeper 1 3 d (omega arith) (leaf_shallow names leaf d (h rules.Typed))
  shape_shallow (shapes.Tables part low high) (array ds) sorted h =
      let each = each_breaks_none (λ rule. inner_breaks names rule part) (values ds) (λ rule. (or_parts (list_breaks rule low high (array ds)) _ (h rule)).1) in
      array_shallow 2 ds (λ k d within. inner_shallow part (get_or (values ds) k d) (sorted_items ds sorted k d within) (each k d within))
  shape_shallow (shapes.Tables part low high) _ sorted h = absurd (let e = h rules.Typed in cc)

  item_shallow : (kind : Item) (d : Data) → is_sorted d ≡ true → BreaksNone (λ rule. item_breaks names rule kind) d → Shallow 4 d
  unfolding item_breaks
  item_shallow kind (table ms) sorted h =
      table_shallow (shape_breaks names) 3 shape_shallow (item_keys kind ms) ms sorted (λ rule. (or_parts (is_no_table rule (table ms)) _ (h rule)).1)
  item_shallow kind _ sorted h = absurd (let e = h rules.Typed in cc)

-- ---- sections

section_shallow : (most : ℕ) (breaks : ℕ → Rule → Data → Bool) (n : ℕ) → ((i : ℕ) (d : Data) → is_sorted d ≡ true → BreaksNone (breaks i) d → Shallow n d)
    → (value : Data) → is_sorted value ≡ true → ((rule : Rule) → in_list most (λ i. breaks i rule) rule value ≡ None) → Shallow (suc n) value
section_shallow most breaks n one (array ds) sorted h =
    let kept = list_kept most breaks (array ds) h in
    array_shallow n ds (λ k d within. one k (get_or (values ds) k d) (sorted_items ds sorted k d within) (kept.each_kept k d within))
section_shallow most breaks n one _ sorted h = absurd (let e = h rules.Typed in cc)

whole_false : (b : Bool) → whole b ≡ None → b ≡ false
whole_false true h = absurd (cc)
whole_false false h = refl

number_there : (d : Data) → is_none (as_integer d >>= number_from 1 2) ≡ false → Shallow 5 d
number_there (integer z) h = (omega arith, refl)
number_there _ h = absurd (cc)

one_of : (P : Text → Type 0) (k : Text) (ks : List Text) → AllByRecursion P ks → list_any (same_text k) ks ≡ true → P k
one_of P k [] all there = absurd (cc)
one_of P k (x ∷ ks) all there =
    elim (cases_Bool (same_text k x)) [
      | inl here ↦ subst P (sym ((bytes_decides k x).0 here)) all.0
      | inr other ↦ one_of P k ks all.1 (ap (λ b. b || list_any (same_text k) ks) (sym other) ∙ there)
    ]

module _ (top : Members) (none : table_fault top ≡ None) where
  abbrev KeyShallow : Text → Type 0
  KeyShallow k = (d : Data) → get_member k top ≡ Some d → is_sorted d ≡ true → Shallow 5 d

  -- what a section's search answers of the value that is there
  told : (code : ℕ) (at : Section) (key : Text) (where_is : Data → Option ℕ) (d : Data) → get_member key top ≡ Some d → at_section top code at key where_is ≡ None → where_is d ≡ None
  told code at key where_is d found h = ap (λ o. o >>= where_is) (sym found) ∙ none_at code at (get_member key top >>= where_is) h

  version_flat : KeyShallow (codes "version")
  unfolding version number_at
  version_flat d found sorted =
      let there : is_none (version top) ≡ false = whole_false (is_none (version top)) (none_at 3 section.Top (whole (is_none (version top))) (tests_none top none).0) in
      number_there d (ap (λ o. is_none (o >>= as_integer >>= number_from 1 2)) (sym found) ∙ there)

  of_items : (most : ℕ) (kind : Item) (d : Data) → is_sorted d ≡ true → ((rule : Rule) → in_items top most kind rule d ≡ None) → Shallow 5 d
  of_items most kind d sorted h = section_shallow most (item_rules top kind) 4 (λ i. item_shallow (names_at top kind i) kind) d sorted h

  each_key : AllByRecursion KeyShallow (codes "term" ∷ section_keys)
  each_key =
      let was = λ (rule : Rule). let r = rule_none top none rule in sections_none top r.0 rule r.1 in
      let code = λ (rule : Rule). (rule_none top none rule).0 in (
        λ d found sorted. of_items 256 items.Term d sorted (λ rule. told (code rule) section.Term (codes "term") _ d found (was rule).1.1.1.0),
        (
          version_flat,
          (
            λ d found sorted. deeper 2 5 d (omega arith) (section_shallow 64 (system_rules top) 1 (λ i e s k. leaf_shallow (names_of top) (leaves.Text 16) e (k rules.Typed)) d sorted (λ rule. told (code rule) section.System (codes "systems") _ d found (was rule).0)),
            (
              λ d found sorted. of_items 16 items.Page d sorted (λ rule. told (code rule) section.Page (codes "page") _ d found (was rule).1.0),
              (
                λ d found sorted. of_items 1024 items.Param d sorted (λ rule. told (code rule) section.Param (codes "param") _ d found (was rule).1.1.0),
                (
                  λ d found sorted. deeper 4 5 d (omega arith) (item_shallow (names_of top) items.Phase d sorted (λ rule. whole_false _ (told (code rule) section.Phase (codes "phase") _ d found (was rule).1.1.1.1.0))),
                  (
                    λ d found sorted. of_items (most_alerts top) items.Alert d sorted (λ rule. told (code rule) section.Alert (codes "alert") _ d found (was rule).1.1.1.1.1.0),
                    (
                      λ d found sorted. of_items 128 items.Memo d sorted (λ rule. told (code rule) section.Memo (codes "memo") _ d found (was rule).1.1.1.1.1.1.0),
                      tt,
                    ),
                  ),
                ),
              ),
            ),
          ),
        ),
      )

  known_key : (second : Bool) (k : Text) → list_any (same_text k) (top_keys second) ≡ true → KeyShallow k
  unfolding top_keys
  known_key true k there = one_of KeyShallow k (codes "term" ∷ section_keys) each_key there
  known_key false k there = one_of KeyShallow k section_keys each_key.1 there

  -- a document without a fault
  pub top_shallow : members_are_sorted top ≡ true → Shallow 6 (table top)
  top_shallow sorted =
      let only = not_true (has_only (top_keys (is_second top)) top) (whole_false _ (none_at 4 section.Top (whole (not (has_only (top_keys (is_second top)) top))) (tests_none top none).1.0)) in
      let Known : Text → Data → Type 0 = λ k d. list_any (same_text k) (top_keys (is_second top)) ≡ true in
      let Found : Text → Data → Type 0 = λ k d. get_member k top ≡ Some d in
      let Sorted : Text → Data → Type 0 = λ k d. is_sorted d ≡ true in
      let all = each-both Known (λ k d. Found k d × Sorted k d) top (listed (top_keys (is_second top)) top only) (each-both Found Sorted top (found_each top sorted) (sorted_each top sorted)) in
      members_shallow 5 top (each-weaker (λ k d. Known k d × (Found k d × Sorted k d)) (λ k d. Shallow 5 d) (λ k d so. known_key (is_second top) k so.0 d so.1.0 so.1.1) top all)
