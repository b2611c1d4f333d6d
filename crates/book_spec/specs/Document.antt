-- Which fault a document has that its table alone shows: codes 3 to 19, a rule each, and 11 for what stands twice.
use Rattle.std.specs.Prelude.{ℕ, Bool, false, true, not, ◌||◌, ◌==◌, List, [], ◌∷◌, ◌++◌, map, take, fold, codes, Option, Some, None, is_none, unwrap_or, if◌then◌else◌}
use Rattle.std.specs.Option.{option_or}
use Rattle.toml.specs.Data.{Data, Members, get_member, as_str, as_table}
use Rattle.ecam_spec.specs.declared.limits.TheConstants.{SYSTEMS, PAGES, PARAMETERS, NAMED_TERMS, ALERTS, ALERTS_OF_VERSION_1, MEMOS, SYSTEM_TEXT}
use Rattle.ecam_spec.specs.declared.kinds.Section.{Section}
use Rattle.ecam_spec.specs.declared.kinds.Section.TheVariants as section
use Rattle.ecam_spec.specs.declared.kinds.BookFault.{BookFault}
use Rattle.ecam_spec.specs.Book.{Text, NamedTerm}
use Rattle.ecam_spec.specs.Faults.{first_item, fault_at, whole}
use Rattle.ecam_spec.specs.Places.{first_of}
use Rattle.ecam_spec.specs.KeepsLimits.{is_repeated}
use Rattle.book_spec.specs.Fields.{◌>>=◌, has_only, string_at, number_at}
use Rattle.book_spec.specs.Rules.{Names, members_of, list_in, is_among, leaf_breaks}
use Rattle.book_spec.specs.Defaults.{table_in, name_or_none, named_in}
use Rattle.book_spec.specs.TableRules.{list_breaks, item_breaks}
use Rattle.book_spec.specs.declared.schema.Leaf.TheVariants as leaves
use Rattle.book_spec.specs.declared.schema.Item.{Item}
use Rattle.book_spec.specs.declared.schema.Item.TheVariants as items
use Rattle.book_spec.specs.declared.schema.Rule.{Rule}
use Rattle.book_spec.specs.declared.schema.Rule.TheVariants as rules

-- ---- the names of a document

-- the text that a value is, and the name that an item has; empty where there is none
abbrev pub text_of : Data → Text
text_of value = unwrap_or (as_str value) []

abbrev pub name_of : Data → Text
name_of value = unwrap_or (as_table value >>= string_at (codes "name")) []

abbrev pub names_in : Text → Members → List Text
names_in key top = map name_of (list_in key top)

abbrev pub system_texts : Members → List Text
system_texts top = map text_of (list_in (codes "systems") top)

-- the names that conditions may use where these named conditions are known
abbrev pub names_with : Members → List NamedTerm → Names
names_with top terms = record {
  systems = system_texts top;
  pages = names_in (codes "page") top;
  of_terms = record { parameters = names_in (codes "param") top; alerts = names_in (codes "alert") top; terms = terms };
}

-- these named conditions, and the next one, which is read where they are known
abbrev pub and_next : Members → List NamedTerm → Data → List NamedTerm
and_next top known value = known ++ named_in (names_with top known) value ∷ []

-- the named conditions of these items, each read where those before it are known
unfoldable pub named_among : Members → List Data → List NamedTerm
named_among top values = fold (and_next top) [] values

-- the names of these items, each empty where it hasn't the form of one
abbrev pub term_names : Members → List Text
term_names top = map (λ value. name_or_none (table_in value)) (list_in (codes "term") top)

abbrev pub named_terms : Members → List NamedTerm
named_terms top = named_among top (list_in (codes "term") top)

-- the names that conditions may use: all named ones are known
unfoldable pub names_of : Members → Names
names_of top = names_with top (named_terms top)

-- the names that the i-th item of a section may use: a named condition those of the named ones before it
abbrev pub names_at : Members → Item → ℕ → Names
names_at top items.Term i = names_with top (take i (named_terms top))
names_at top _ i = names_of top

-- ---- the version

-- the version of a document: 1 or 2, or none
unfoldable pub version : Members → Option ℕ
version top = number_at 1 2 (codes "version") top

-- it is version 2, which may name conditions, and has more alerts
abbrev pub is_second : Members → Bool
is_second top = unwrap_or (version top) 1 == 2

-- the most alerts of a document
abbrev pub most_alerts : Members → ℕ
most_alerts top = if is_second top then ALERTS else ALERTS_OF_VERSION_1

-- the keys of the whole document; version 2 has one more
abbrev pub section_keys : List Text
section_keys =
    codes "version" ∷ codes "systems" ∷ codes "page" ∷ codes "param" ∷ codes "phase" ∷ codes "alert" ∷ codes "memo" ∷ []

unfoldable pub top_keys : Bool → List Text
top_keys names_terms = elim names_terms [ true ↦ codes "term" ∷ section_keys | false ↦ section_keys ]

-- ---- the sections

-- a list of at most so many items: the list as a whole, then the first item that is so
abbrev pub in_list : ℕ → (ℕ → Data → Bool) → Rule → Data → Option ℕ
in_list most is_so rule value = option_or (whole (list_breaks rule 0 most value)) (first_item is_so (members_of value))

module _ (top : Members) where
  -- where a section that is there breaks a rule
  abbrev pub at_section : ℕ → Section → Text → (Data → Option ℕ) → Option BookFault
  at_section code section key where_is = fault_at code section (get_member key top >>= where_is)

  -- where a list of at most so many items breaks a rule, by the names that each may use
  abbrev pub in_items : ℕ → Item → Rule → Data → Option ℕ
  in_items most item rule = in_list most (λ i. item_breaks (names_at top item i) rule item) rule

  -- the first section that breaks a rule, and its first item
  unfoldable pub rule_fault : ℕ → Rule → Option BookFault
  rule_fault code rule = first_of (
      at_section code section.System (codes "systems") (in_list SYSTEMS (λ i. leaf_breaks (names_of top) rule (leaves.Text SYSTEM_TEXT)) rule)
      ∷ at_section code section.Page (codes "page") (in_items PAGES items.Page rule)
      ∷ at_section code section.Param (codes "param") (in_items PARAMETERS items.Param rule)
      ∷ at_section code section.Term (codes "term") (in_items NAMED_TERMS items.Term rule)
      ∷ at_section code section.Phase (codes "phase") (λ value. whole (item_breaks (names_of top) rule items.Phase value))
      ∷ at_section code section.Alert (codes "alert") (in_items (most_alerts top) items.Alert rule)
      ∷ at_section code section.Memo (codes "memo") (in_items MEMOS items.Memo rule)
      ∷ [])

  -- the first item of a section whose name stands at another one too
  abbrev pub repeated_in : Section → List Text → Option BookFault
  repeated_in section names = fault_at 11 section (first_item (λ i n. is_repeated names n) names)

  -- a named condition has the name of another one, or of a parameter
  abbrev pub is_taken : Text → Bool
  is_taken n = is_repeated (names_in (codes "term") top) n || is_among (names_in (codes "param") top) n

  unfoldable pub repeated_fault : Option BookFault
  repeated_fault = first_of (
      repeated_in section.System (system_texts top)
      ∷ repeated_in section.Page (names_in (codes "page") top)
      ∷ repeated_in section.Param (names_in (codes "param") top)
      ∷ fault_at 11 section.Term (first_item (λ i n. is_taken n) (names_in (codes "term") top))
      ∷ repeated_in section.Alert (names_in (codes "alert") top)
      ∷ repeated_in section.Memo (names_in (codes "memo") top)
      ∷ [])

  -- the fault that the table shows
  unfoldable pub table_fault : Option BookFault
  table_fault = first_of (
      fault_at 3 section.Top (whole (is_none (version top)))
      ∷ fault_at 4 section.Top (whole (not (has_only (top_keys (is_second top)) top)))
      ∷ rule_fault 4 rules.Known
      ∷ rule_fault 5 rules.Needed
      ∷ rule_fault 6 rules.Typed
      ∷ rule_fault 7 rules.Named
      ∷ rule_fault 8 rules.Written
      ∷ rule_fault 9 rules.Ranged
      ∷ rule_fault 10 rules.Counted
      ∷ repeated_fault
      ∷ rule_fault 12 rules.Worded
      ∷ rule_fault 13 rules.Labelled
      ∷ rule_fault 14 rules.Paged
      ∷ rule_fault 15 rules.Grouped
      ∷ rule_fault 16 rules.Spelled
      ∷ rule_fault 17 rules.Found
      ∷ rule_fault 18 rules.Small
      ∷ rule_fault 19 rules.Measured
      ∷ [])
