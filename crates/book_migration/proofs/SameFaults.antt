-- A document without a fault has none in version 2.
use Rattle.std.proofs.Common.{◌≡◌, ℕ, ◌≤◌, Bool, true, false, ◌&&◌, ◌||◌, not, List, [], ◌∷◌, length, Option, Some, None, refl, ap, ◌∙◌, arith}
use Rattle.std.specs.Prelude.{codes, is_none, unwrap_or, ◌==◌, if◌then◌else◌}
use Rattle.std.specs.List.{list_any, list_all, AllByRecursion}
use Rattle.std.proofs.lemmas.Bool.{and_parts}
use Rattle.std.proofs.lemmas.Bool.Decides.{nat_tests}
use Rattle.toml.specs.Data.{Data, array, Members, get_member, as_integer, same_key}
use Rattle.ecam_spec.specs.declared.kinds.Section.{Section}
use Rattle.ecam_spec.specs.declared.kinds.Section.TheVariants as section
use Rattle.ecam_spec.specs.declared.kinds.BookFault.{BookFault}
use Rattle.ecam_spec.specs.Book.{Text}
use Rattle.ecam_spec.specs.Bytes.{same_text, is_between}
use Rattle.ecam_spec.specs.Faults.{first_item, fault_at, whole}
use Rattle.ecam_spec.specs.Places.{first_of}
use Rattle.book_spec.specs.Fields.{◌>>=◌, keys, has_only, number_at, number_from}
use Rattle.book_spec.specs.Rules.{Names, members_of, values, has_wrong_count, leaf_breaks}
use Rattle.book_spec.specs.TableRules.{list_breaks, item_breaks}
use Rattle.book_spec.specs.Document.{section_keys, top_keys, names_of, version, is_second, most_alerts, in_list, in_items, at_section, rule_fault, repeated_fault, table_fault}
use Rattle.book_spec.specs.declared.schema.Leaf.TheVariants as leaves
use Rattle.book_spec.specs.declared.schema.Item.{Item}
use Rattle.book_spec.specs.declared.schema.Item.TheVariants as items
use Rattle.book_spec.specs.declared.schema.Rule.{Rule}
use Rattle.book_spec.specs.declared.schema.Rule.TheVariants as rules
use Rattle.book_spec.proofs.FaultFree.{IsNone, none_at, none_whole, tests, sections, tests_none, sections_none}
use Rattle.book_migration.specs.Migrated.{in_version_2}
use Rattle.book_migration.proofs.Versions.{same_at, version_at, same_keys}
use Rattle.book_migration.proofs.SameParts.{systems_same, pages_same, parameters_same, terms_same, alerts_same, memos_same, all_same, before_same}

-- ---- the top

-- a version is told by a value
told_by : (o : Option Data) → is_none (o >>= as_integer >>= number_from 1 2) ≡ false → (value : Data) × (o ≡ Some value)
told_by None h = absurd (cc)
told_by (Some value) h = (value, refl)

version_there : (top : Members) → is_none (version top) ≡ false → (value : Data) × (get_member (codes "version") top ≡ Some value)
unfolding version number_at
version_there top h = told_by (get_member (codes "version") top) h

pub version_2 : (top : Members) → is_none (version top) ≡ false → version (in_version_2 top) ≡ Some 2
unfolding version number_at
version_2 top h =
    let there = version_there top h in
    ap (λ o. o >>= as_integer >>= number_from 1 2) (version_at top there.0 there.1)

either : (b : Bool) → ((b || true) && true) ≡ true
either true = refl
either false = refl

-- a key of version 1 is one of version 2
more_keys : (ks : List Text) → list_all (λ key. list_any (same_text key) section_keys) ks ≡ true → list_all (λ key. list_any (same_text key) (codes "term" ∷ section_keys)) ks ≡ true
more_keys [] h = refl
more_keys (k ∷ ks) h =
    let parts = and_parts (list_any (same_text k) section_keys) (list_all (λ key. list_any (same_text key) section_keys) ks) h in
    rw (parts.0, more_keys ks parts.1) (either (same_text k (codes "term")))

keys_kept : (second : Bool) (ks : List Text) → list_all (λ key. list_any (same_text key) (top_keys second)) ks ≡ true → list_all (λ key. list_any (same_text key) (top_keys true)) ks ≡ true
unfolding top_keys
keys_kept true ks h = h
keys_kept false ks h = more_keys ks h

-- ---- a section that may have more items

wider : (n most : ℕ) → most ≤ 2048 → not (is_between 0 most n) ≡ false → not (is_between 0 2048 n) ≡ false
wider n most few h = grind (arith, nat_tests)

wider_count : (most : ℕ) → most ≤ 2048 → (value : Data) → has_wrong_count 0 most value ≡ false → has_wrong_count 0 2048 value ≡ false
wider_count most few (array list) h = wider (length (values list)) most few h
wider_count most few _ h = h

wider_list : (rule : Rule) (most : ℕ) → most ≤ 2048 → (value : Data) → list_breaks rule 0 most value ≡ false → list_breaks rule 0 2048 value ≡ false
wider_list rules.Counted most few value h = wider_count most few value h
wider_list rules.Typed most few value h = h
wider_list _ most few value h = refl

more_items : (breaks : ℕ → Data → Bool) (rule : Rule) (most : ℕ) → most ≤ 2048 → (value : Data) → in_list most breaks rule value ≡ None → in_list 2048 breaks rule value ≡ None
more_items breaks rule most few value h =
    let parts = none_whole (list_breaks rule 0 most value) (first_item breaks (members_of value)) h in
    rw (wider_list rule most few value parts.0) parts.1

more_there : (breaks : ℕ → Data → Bool) (rule : Rule) (most : ℕ) → most ≤ 2048 → (o : Option Data) → (o >>= in_list most breaks rule) ≡ None → (o >>= in_list 2048 breaks rule) ≡ None
more_there breaks rule most few None h = refl
more_there breaks rule most few (Some value) h = more_items breaks rule most few value h

few_alerts : (top : Members) → most_alerts top ≤ 2048
few_alerts top = elim (is_second top) as (λ b. (if b then 2048 else 1024) ≤ 2048) [ true ↦ omega arith | false ↦ omega arith ]

-- ---- the whole document

whole_false : (b : Bool) → whole b ≡ None → b ≡ false
whole_false true h = absurd (cc)
whole_false false h = refl

not_true : (b : Bool) → not b ≡ false → b ≡ true
not_true true h = refl
not_true false h = absurd (cc)

all_none : (fs : List (Option BookFault)) → AllByRecursion IsNone fs → first_of fs ≡ None
all_none [] h = refl
all_none (f ∷ fs) h = rw h.0 (all_none fs h.1)

module _ (top : Members) (none : table_fault top ≡ None) where
  abbrev second : Members
  second = in_version_2 top

  version_told : is_none (version top) ≡ false
  version_told = whole_false (is_none (version top)) (none_at 3 section.Top (whole (is_none (version top))) (tests_none top none).0)

  is_2 : is_second second ≡ true
  is_2 = ap (λ o. unwrap_or o 1 == 2) (version_2 top version_told)

  only_keys : has_only (top_keys (is_second second)) second ≡ true
  only_keys =
      let kept = not_true _ (whole_false _ (none_at 4 section.Top (whole (not (has_only (top_keys (is_second top)) top))) (tests_none top none).1.0)) in
      ap (λ b. has_only (top_keys b) second) is_2 ∙ ap (λ ks. list_all (λ key. list_any (same_text key) (top_keys true)) ks) (same_keys top) ∙ keys_kept (is_second top) (keys top) kept

  at_same : (code : ℕ) (told : Section) (key : Text) (was is : Data → Option ℕ) → same_key key (codes "version") ≡ false → is ≡ was
      → at_section top code told key was ≡ None → at_section second code told key is ≡ None
  at_same code told key was is other same h =
      ap (λ o. fault_at code told (o >>= is)) (same_at top key other) ∙ ap (λ w. fault_at code told (get_member key top >>= w)) same ∙ h

  alerts_none : (code : ℕ) (rule : Rule) → at_section top code section.Alert (codes "alert") (in_items top (most_alerts top) items.Alert rule) ≡ None
      → at_section second code section.Alert (codes "alert") (in_items second (most_alerts second) items.Alert rule) ≡ None
  alerts_none code rule h =
      let breaks : ℕ → Data → Bool = λ i. item_breaks (names_of top) rule items.Alert in
      let more = more_there breaks rule (most_alerts top) (few_alerts top) (get_member (codes "alert") top) (none_at code section.Alert (get_member (codes "alert") top >>= in_items top (most_alerts top) items.Alert rule) h) in
      let most : most_alerts second ≡ 2048 = ap (λ b. if b then 2048 else 1024) is_2 in
      ap (λ o. fault_at code section.Alert (o >>= in_items second (most_alerts second) items.Alert rule)) (same_at top (codes "alert") refl)
      ∙ ap (λ m. fault_at code section.Alert (get_member (codes "alert") top >>= in_items second m items.Alert rule)) most
      ∙ ap (λ ns. fault_at code section.Alert (get_member (codes "alert") top >>= in_list 2048 (λ i. item_breaks ns rule items.Alert) rule)) (all_same top)
      ∙ ap (fault_at code section.Alert) more

  rule_kept : (code : ℕ) (rule : Rule) → rule_fault top code rule ≡ None → rule_fault second code rule ≡ None
  unfolding rule_fault
  rule_kept code rule h =
      let was = sections_none top code rule h in
      let by_names = λ (most : ℕ) (item : Item). ap (λ (ns : Names). in_list most (λ i. item_breaks ns rule item) rule) (all_same top) in
      let in_phase : Names → Data → Option ℕ = λ ns value. whole (item_breaks ns rule items.Phase value) in
      all_none (sections second code rule) (
        at_same code section.System (codes "systems") _ _ refl (ap (λ (ns : Names). in_list 64 (λ i. leaf_breaks ns rule (leaves.Text 16)) rule) (all_same top)) was.0,
        (
          at_same code section.Page (codes "page") _ _ refl (by_names 16 items.Page) was.1.0,
          (
            at_same code section.Param (codes "param") _ _ refl (by_names 1024 items.Param) was.1.1.0,
            (
              at_same code section.Term (codes "term") _ _ refl (ap (λ (f : ℕ → Names). in_list 256 (λ i. item_breaks (f i) rule items.Term) rule) (before_same top)) was.1.1.1.0,
              (
                at_same code section.Phase (codes "phase") _ _ refl (ap in_phase (all_same top)) was.1.1.1.1.0,
                (
                  alerts_none code rule was.1.1.1.1.1.0,
                  (
                    at_same code section.Memo (codes "memo") _ _ refl (by_names 128 items.Memo) was.1.1.1.1.1.1.0,
                    tt,
                  ),
                ),
              ),
            ),
          ),
        ),
      )

  repeats_same : repeated_fault second ≡ repeated_fault top
  unfolding repeated_fault
  repeats_same = rw (systems_same top, pages_same top, parameters_same top, terms_same top, alerts_same top, memos_same top) refl

  -- it has no fault in version 2 either
  pub second_faultless : table_fault second ≡ None
  unfolding table_fault
  second_faultless =
      let was = tests_none top none in
      all_none (tests second) (
        ap (λ o. fault_at 3 section.Top (whole (is_none o))) (version_2 top version_told),
        (
          ap (λ b. fault_at 4 section.Top (whole (not b))) only_keys,
          (
            rule_kept 4 rules.Known was.1.1.0,
            (
              rule_kept 5 rules.Needed was.1.1.1.0,
              (
                rule_kept 6 rules.Typed was.1.1.1.1.0,
                (
                  rule_kept 7 rules.Named was.1.1.1.1.1.0,
                  (
                    rule_kept 8 rules.Written was.1.1.1.1.1.1.0,
                    (
                      rule_kept 9 rules.Ranged was.1.1.1.1.1.1.1.0,
                      (
                        rule_kept 10 rules.Counted was.1.1.1.1.1.1.1.1.0,
                        (
                          repeats_same ∙ was.1.1.1.1.1.1.1.1.1.0,
                          (
                            rule_kept 12 rules.Worded was.1.1.1.1.1.1.1.1.1.1.0,
                            (
                              rule_kept 13 rules.Labelled was.1.1.1.1.1.1.1.1.1.1.1.0,
                              (
                                rule_kept 14 rules.Paged was.1.1.1.1.1.1.1.1.1.1.1.1.0,
                                (
                                  rule_kept 15 rules.Grouped was.1.1.1.1.1.1.1.1.1.1.1.1.1.0,
                                  (
                                    rule_kept 16 rules.Spelled was.1.1.1.1.1.1.1.1.1.1.1.1.1.1.0,
                                    (
                                      rule_kept 17 rules.Found was.1.1.1.1.1.1.1.1.1.1.1.1.1.1.1.0,
                                      (
                                        rule_kept 18 rules.Small was.1.1.1.1.1.1.1.1.1.1.1.1.1.1.1.1.0,
                                        (
                                          rule_kept 19 rules.Measured was.1.1.1.1.1.1.1.1.1.1.1.1.1.1.1.1.1.0,
                                          tt,
                                        ),
                                      ),
                                    ),
                                  ),
                                ),
                              ),
                            ),
                          ),
                        ),
                      ),
                    ),
                  ),
                ),
              ),
            ),
          ),
        ),
      )
