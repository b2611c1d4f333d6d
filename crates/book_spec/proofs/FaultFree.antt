-- What is so of a document whose table shows no fault: its sections break no rule, and no name stands twice.
use Rattle.std.proofs.Common.{◌≡◌, ℕ, zero, suc, ◌+◌, ◌<◌, ◌≤◌, Bool, true, false, not, List, [], ◌∷◌, length, get_or, Option, Some, None, refl, sym, ap, ◌∙◌, arith, add-zero}
use Rattle.std.specs.Prelude.{codes, is_none}
use Rattle.std.specs.Option.{option_or}
use Rattle.std.specs.List.{All, AllByRecursion}
use Rattle.std.proofs.Math.Nat.{add-suc, suc-add, zero-add}
use Rattle.std.proofs.lemmas.Bool.{or_parts}
use Rattle.toml.specs.Data.{Data, Members, get_member}
use Rattle.ecam_spec.specs.declared.kinds.Section.{Section}
use Rattle.ecam_spec.specs.declared.kinds.Section.TheVariants as section
use Rattle.ecam_spec.specs.declared.kinds.BookFault.{BookFault}
use Rattle.ecam_spec.specs.Book.{Text}
use Rattle.ecam_spec.specs.Faults.{first_from, first_item, fault_at, whole}
use Rattle.ecam_spec.specs.Places.{first_of}
use Rattle.ecam_spec.specs.KeepsLimits.{is_repeated, NoneRepeated}
use Rattle.book_spec.specs.Fields.{◌>>=◌, has_only}
use Rattle.book_spec.specs.Rules.{members_of, list_in, is_among, leaf_breaks}
use Rattle.book_spec.specs.TableRules.{list_breaks, item_breaks}
use Rattle.book_spec.specs.Document.{top_keys, names_in, system_texts, names_of, names_at, version, is_second, most_alerts, in_list, in_items, at_section, rule_fault, repeated_in, is_taken, repeated_fault, table_fault}
use Rattle.book_spec.specs.declared.schema.Leaf.TheVariants as leaves
use Rattle.book_spec.specs.declared.schema.Item.{Item}
use Rattle.book_spec.specs.declared.schema.Item.TheVariants as items
use Rattle.book_spec.specs.declared.schema.Rule.{Rule}
use Rattle.book_spec.specs.declared.schema.Rule.TheVariants as rules
use Rattle.book_spec.proofs.KeyFacts.{BreaksNone, counted}

-- ---- searches that find nothing

abbrev pub IsNone : Option BookFault → Type 0
IsNone told = told ≡ None

pub none_told : (fs : List (Option BookFault)) → first_of fs ≡ None → AllByRecursion IsNone fs
none_told [] h = tt
none_told (None ∷ fs) h = (refl, none_told fs h)
none_told (Some f ∷ fs) h = absurd (cc)

pub none_at : (code : ℕ) (section : Section) (item : Option ℕ) → fault_at code section item ≡ None → item ≡ None
none_at code section None h = refl
none_at code section (Some i) h = absurd (cc)

none_after : {X : Type 0} (n : ℕ) (test : ℕ → X → Bool) (x : X) (xs : List X) → test n x ≡ false
    → ((k : ℕ) (d : X) → k < length xs → test (suc n + k) (get_or xs k d) ≡ false)
    → (k : ℕ) (d : X) → k < length (x ∷ xs) → test (n + k) (get_or (x ∷ xs) k d) ≡ false
none_after n test x xs here later zero d within = ap (λ i. test i x) (add-zero n) ∙ here
none_after n test x xs here later (suc k) d within = ap (λ i. test i (get_or xs k d)) (add-suc n k ∙ sym (suc-add n k)) ∙ later k d (omega (arith, within))

-- where no item passes a test that is given its place too, each fails it
none_from : {X : Type 0} (n : ℕ) (test : ℕ → X → Bool) (xs : List X) → first_from n test xs ≡ None → (k : ℕ) (d : X) → k < length xs → test (n + k) (get_or xs k d) ≡ false
none_from n test [] h k d within = absurd (omega (arith, within))
none_from n test (x ∷ xs) h k d within =
    elim (test n x) as (λ b. test n x ≡ b → elim b as (λ c. Option ℕ) [ true ↦ Some (suc n) | false ↦ first_from (suc n) test xs ] ≡ None → test (n + k) (get_or (x ∷ xs) k d) ≡ false) [
      | true ↦ λ e told. absurd (cc)
      | false ↦ λ e told. none_after n test x xs e (none_from (suc n) test xs told) k d within
    ] refl h

none_at_place : {X : Type 0} (test : ℕ → X → Bool) (xs : List X) → first_item test xs ≡ None → (k : ℕ) (d : X) → k < length xs → test k (get_or xs k d) ≡ false
none_at_place test xs h k d within = ap (λ i. test i (get_or xs k d)) (sym (zero-add k)) ∙ none_from 0 test xs h k d within

none_first : {X : Type 0} (test : X → Bool) (xs : List X) → first_item (λ i x. test x) xs ≡ None → All (λ x. test x ≡ false) xs
none_first test xs h = none_from 0 (λ i x. test x) xs h

pub none_whole : (b : Bool) (o : Option ℕ) → option_or (whole b) o ≡ None → (b ≡ false) × (o ≡ None)
none_whole true o h = absurd (cc)
none_whole false o h = (refl, h)

-- ---- sections

-- a section that breaks no rule has as many items as it may, and each breaks none; the rules of an item may go by its
-- place
pub record KeepsSection (most : ℕ) (breaks : ℕ → Rule → Data → Bool) (section : List Data) : Type 0 where
  pub count : length section ≤ most
  pub each_kept : (k : ℕ) (d : Data) → k < length section → BreaksNone (breaks k) (get_or section k d)

pub list_kept : (most : ℕ) (breaks : ℕ → Rule → Data → Bool) (value : Data) → ((rule : Rule) → in_list most (λ i. breaks i rule) rule value ≡ None) → KeepsSection most breaks (members_of value)
list_kept most breaks value h =
    let of_rule = λ (rule : Rule). none_whole (list_breaks rule 0 most value) (first_item (λ i. breaks i rule) (members_of value)) (h rule) in
    record {
      count = (counted 0 most value (of_rule rules.Typed).0 (of_rule rules.Counted).0).1;
      each_kept = λ k d within rule. none_at_place (λ i. breaks i rule) (members_of value) (of_rule rule).1 k d within;
    }

section_kept : (top : Members) (key : Text) (most : ℕ) (breaks : ℕ → Rule → Data → Bool) → ((rule : Rule) → (get_member key top >>= in_list most (λ i. breaks i rule) rule) ≡ None)
    → KeepsSection most breaks (list_in key top)
unfolding list_in
section_kept top key most breaks h =
    elim (get_member key top) as (λ o. ((rule : Rule) → (o >>= in_list most (λ i. breaks i rule) rule) ≡ None) → KeepsSection most breaks (elim o as (λ x. List Data) [ None ↦ [] | Some value ↦ members_of value ])) [
      | None ↦ λ k. record { count = omega arith; each_kept = λ i d within. absurd (omega (arith, within)) }
      | Some value ↦ λ k. list_kept most breaks value k
    ] h

-- the rules of the items of a section, by the names that each may use
abbrev pub item_rules : Members → Item → ℕ → Rule → Data → Bool
item_rules top item i rule = item_breaks (names_at top item i) rule item

-- a section of items that are read by the same names
abbrev pub system_rules : Members → ℕ → Rule → Data → Bool
system_rules top i rule = leaf_breaks (names_of top) rule (leaves.Text 16)

-- what is so of a document without a fault
pub record IsFaultless (top : Members) : Type 0 where
  pub systems : KeepsSection 64 (system_rules top) (list_in (codes "systems") top)
  pub pages : KeepsSection 16 (item_rules top items.Page) (list_in (codes "page") top)
  pub parameters : KeepsSection 1024 (item_rules top items.Param) (list_in (codes "param") top)
  pub terms : KeepsSection 256 (item_rules top items.Term) (list_in (codes "term") top)
  pub alerts : KeepsSection (most_alerts top) (item_rules top items.Alert) (list_in (codes "alert") top)
  pub memos : KeepsSection 128 (item_rules top items.Memo) (list_in (codes "memo") top)
  pub systems_once : NoneRepeated (system_texts top)
  pub pages_once : NoneRepeated (names_in (codes "page") top)
  pub parameters_once : NoneRepeated (names_in (codes "param") top)
  pub terms_once : NoneRepeated (names_in (codes "term") top)
  pub alerts_once : NoneRepeated (names_in (codes "alert") top)
  pub memos_once : NoneRepeated (names_in (codes "memo") top)

module _ (top : Members) where
  once_in : (section : Section) (names : List Text) → repeated_in top section names ≡ None → NoneRepeated names
  once_in section names h = none_first (is_repeated names) names (none_at 11 section (first_item (λ i n. is_repeated names n) names) h)

  -- of the named conditions no two have one name
  terms_apart : fault_at 11 section.Term (first_item (λ i n. is_taken top n) (names_in (codes "term") top)) ≡ None → NoneRepeated (names_in (codes "term") top)
  terms_apart h =
      let names = names_in (codes "term") top in
      let apart = none_first (is_taken top) names (none_at 11 section.Term (first_item (λ i n. is_taken top n) names) h) in
      λ k d within. (or_parts (is_repeated names (get_or names k d)) (is_among (names_in (codes "param") top) (get_or names k d)) (apart k d within)).0

  -- the tests of a document, one after another, and those of a rule, section by section
  abbrev pub tests : List (Option BookFault)
  tests =
      fault_at 3 section.Top (whole (is_none (version top)))
      ∷ fault_at 4 section.Top (whole (not (has_only (top_keys (is_second top)) top)))
      ∷ rule_fault top 4 rules.Known
      ∷ rule_fault top 5 rules.Needed
      ∷ rule_fault top 6 rules.Typed
      ∷ rule_fault top 7 rules.Named
      ∷ rule_fault top 8 rules.Written
      ∷ rule_fault top 9 rules.Ranged
      ∷ rule_fault top 10 rules.Counted
      ∷ repeated_fault top
      ∷ rule_fault top 12 rules.Worded
      ∷ rule_fault top 13 rules.Labelled
      ∷ rule_fault top 14 rules.Paged
      ∷ rule_fault top 15 rules.Grouped
      ∷ rule_fault top 16 rules.Spelled
      ∷ rule_fault top 17 rules.Found
      ∷ rule_fault top 18 rules.Small
      ∷ rule_fault top 19 rules.Measured
      ∷ []

  abbrev pub sections : ℕ → Rule → List (Option BookFault)
  sections code rule =
      at_section top code section.System (codes "systems") (in_list 64 (λ i. system_rules top i rule) rule)
      ∷ at_section top code section.Page (codes "page") (in_items top 16 items.Page rule)
      ∷ at_section top code section.Param (codes "param") (in_items top 1024 items.Param rule)
      ∷ at_section top code section.Term (codes "term") (in_items top 256 items.Term rule)
      ∷ at_section top code section.Phase (codes "phase") (λ value. whole (item_breaks (names_of top) rule items.Phase value))
      ∷ at_section top code section.Alert (codes "alert") (in_items top (most_alerts top) items.Alert rule)
      ∷ at_section top code section.Memo (codes "memo") (in_items top 128 items.Memo rule)
      ∷ []

  abbrev pub repeats : List (Option BookFault)
  repeats =
      repeated_in top section.System (system_texts top)
      ∷ repeated_in top section.Page (names_in (codes "page") top)
      ∷ repeated_in top section.Param (names_in (codes "param") top)
      ∷ fault_at 11 section.Term (first_item (λ i n. is_taken top n) (names_in (codes "term") top))
      ∷ repeated_in top section.Alert (names_in (codes "alert") top)
      ∷ repeated_in top section.Memo (names_in (codes "memo") top)
      ∷ []

  pub tests_none : table_fault top ≡ None → AllByRecursion IsNone tests
  unfolding table_fault
  tests_none h = none_told tests h

  pub sections_none : (code : ℕ) (rule : Rule) → rule_fault top code rule ≡ None → AllByRecursion IsNone (sections code rule)
  unfolding rule_fault
  sections_none code rule h = none_told (sections code rule) h

  repeats_none : repeated_fault top ≡ None → AllByRecursion IsNone repeats
  unfolding repeated_fault
  repeats_none h = none_told repeats h

  pub rule_none : table_fault top ≡ None → (rule : Rule) → (code : ℕ) × (rule_fault top code rule ≡ None)
  rule_none h rules.Known = (4, (tests_none h).1.1.0)
  rule_none h rules.Needed = (5, (tests_none h).1.1.1.0)
  rule_none h rules.Typed = (6, (tests_none h).1.1.1.1.0)
  rule_none h rules.Named = (7, (tests_none h).1.1.1.1.1.0)
  rule_none h rules.Written = (8, (tests_none h).1.1.1.1.1.1.0)
  rule_none h rules.Ranged = (9, (tests_none h).1.1.1.1.1.1.1.0)
  rule_none h rules.Counted = (10, (tests_none h).1.1.1.1.1.1.1.1.0)
  rule_none h rules.Worded = (12, (tests_none h).1.1.1.1.1.1.1.1.1.1.0)
  rule_none h rules.Labelled = (13, (tests_none h).1.1.1.1.1.1.1.1.1.1.1.0)
  rule_none h rules.Paged = (14, (tests_none h).1.1.1.1.1.1.1.1.1.1.1.1.0)
  rule_none h rules.Grouped = (15, (tests_none h).1.1.1.1.1.1.1.1.1.1.1.1.1.0)
  rule_none h rules.Spelled = (16, (tests_none h).1.1.1.1.1.1.1.1.1.1.1.1.1.1.0)
  rule_none h rules.Found = (17, (tests_none h).1.1.1.1.1.1.1.1.1.1.1.1.1.1.1.0)
  rule_none h rules.Small = (18, (tests_none h).1.1.1.1.1.1.1.1.1.1.1.1.1.1.1.1.0)
  rule_none h rules.Measured = (19, (tests_none h).1.1.1.1.1.1.1.1.1.1.1.1.1.1.1.1.1.0)

  -- a section of items, where no section breaks a rule
  in_section : (most : ℕ) (at : Section) (key : Text) (breaks : ℕ → Rule → Data → Bool) → ((rule : Rule) → (code : ℕ) × (at_section top code at key (in_list most (λ i. breaks i rule) rule) ≡ None))
      → KeepsSection most breaks (list_in key top)
  in_section most at key breaks h =
      section_kept top key most breaks (λ rule. none_at (h rule).0 at (get_member key top >>= in_list most (λ i. breaks i rule) rule) (h rule).1)

  pub faultless : table_fault top ≡ None → IsFaultless top
  faultless h =
      let told = λ (rule : Rule). let r = rule_none h rule in sections_none r.0 rule r.1 in
      let code = λ (rule : Rule). (rule_none h rule).0 in
      let once = repeats_none (tests_none h).1.1.1.1.1.1.1.1.1.0 in
      record {
        systems = in_section 64 section.System (codes "systems") (system_rules top) (λ rule. (code rule, (told rule).0));
        pages = in_section 16 section.Page (codes "page") (item_rules top items.Page) (λ rule. (code rule, (told rule).1.0));
        parameters = in_section 1024 section.Param (codes "param") (item_rules top items.Param) (λ rule. (code rule, (told rule).1.1.0));
        terms = in_section 256 section.Term (codes "term") (item_rules top items.Term) (λ rule. (code rule, (told rule).1.1.1.0));
        alerts = in_section (most_alerts top) section.Alert (codes "alert") (item_rules top items.Alert) (λ rule. (code rule, (told rule).1.1.1.1.1.0));
        memos = in_section 128 section.Memo (codes "memo") (item_rules top items.Memo) (λ rule. (code rule, (told rule).1.1.1.1.1.1.0));
        systems_once = once_in section.System (system_texts top) once.0;
        pages_once = once_in section.Page (names_in (codes "page") top) once.1.0;
        parameters_once = once_in section.Param (names_in (codes "param") top) once.1.1.0;
        terms_once = terms_apart once.1.1.1.0;
        alerts_once = once_in section.Alert (names_in (codes "alert") top) once.1.1.1.1.0;
        memos_once = once_in section.Memo (names_in (codes "memo") top) once.1.1.1.1.1.0;
      }
