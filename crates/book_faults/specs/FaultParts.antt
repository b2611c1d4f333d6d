-- The parts of a document's first fault, as they are searched for.
use Rattle.std.specs.Prelude.{ℕ, Bool, not, ◌||◌, is_none, List, [], ◌∷◌, map, codes, Option}
use Rattle.std.specs.Option.{option_or}
use Rattle.toml.specs.Data.{Members}
use Rattle.ecam_spec.specs.declared.limits.TheConstants.{SYSTEMS, SYSTEM_TEXT, PAGES, PARAMETERS, NAMED_TERMS, MEMOS}
use Rattle.ecam_spec.specs.declared.kinds.Section.{Section}
use Rattle.ecam_spec.specs.declared.kinds.Section.TheVariants as section
use Rattle.ecam_spec.specs.declared.kinds.BookFault.{BookFault}
use Rattle.ecam_spec.specs.Book.{Text}
use Rattle.ecam_spec.specs.Faults.{first_item, fault_at, whole}
use Rattle.ecam_spec.specs.Places.{first_of}
use Rattle.book_spec.specs.Fields.{has_only}
use Rattle.ecam_spec.specs.KeepsLimits.{is_repeated}
use Rattle.book_spec.specs.Rules.{is_among, leaf_breaks}
use Rattle.book_spec.specs.TableRules.{item_breaks}
use Rattle.book_spec.specs.Document.{top_keys, names_of, names_at, version, is_second, most_alerts, at_section, names_in, is_taken, repeated_fault}
use Rattle.book_spec.specs.declared.schema.Leaf.TheVariants as leaves
use Rattle.book_spec.specs.declared.schema.Item.{Item}
use Rattle.book_spec.specs.declared.schema.Item.TheVariants as items
use Rattle.book_spec.specs.declared.schema.Rule.{Rule}
use Rattle.book_spec.specs.declared.schema.Rule.TheVariants as rules
use Rattle.book_faults.specs.declared.rules.Asked.{Asked}
use Rattle.book_faults.specs.declared.rules.Asked.TheVariants.{One}
use Rattle.book_faults.specs.declared.sections.ItemList.{ItemList}
use Rattle.book_faults.specs.Asked.{item_fails, place_in_list}

-- the codes that are searched for before names that stand twice, and those after, with their rules
abbrev pub before_names : List (ℕ × Rule)
before_names =
    (4, rules.Known) ∷ (5, rules.Needed) ∷ (6, rules.Typed) ∷ (7, rules.Named) ∷ (8, rules.Written) ∷ (9, rules.Ranged)
    ∷ (10, rules.Counted) ∷ []

abbrev pub after_names : List (ℕ × Rule)
after_names =
    (12, rules.Worded) ∷ (13, rules.Labelled) ∷ (14, rules.Paged) ∷ (15, rules.Grouped) ∷ (16, rules.Spelled)
    ∷ (17, rules.Found) ∷ (18, rules.Small) ∷ (19, rules.Measured) ∷ []

-- a name stands more than once among these, or is one of those
abbrev pub is_taken_among : List Text → List Text → Text → Bool
is_taken_among names others name = is_repeated names name || is_among others name

module _ (top : Members) where
  -- where the systems break a rule that is asked for
  abbrev pub system_fault : ℕ → Asked → Option BookFault
  system_fault code asked = at_section top code section.System (codes "systems") (place_in_list asked SYSTEMS (λ i rule. leaf_breaks (names_of top) rule (leaves.Text SYSTEM_TEXT)))

  -- where a section of items does
  abbrev pub items_fault : ℕ → Asked → Section → Text → ℕ → Item → Option BookFault
  items_fault code asked section key most item = at_section top code section key (place_in_list asked most (λ i rule. item_breaks (names_at top item i) rule item))

  abbrev pub listed_fault : ℕ → Asked → ItemList → Option BookFault
  listed_fault code asked listed = items_fault code asked listed.section listed.key.now listed.most listed.item

  abbrev pub alerts_fault : ℕ → Asked → Option BookFault
  alerts_fault code asked = items_fault code asked section.Alert (codes "alert") (most_alerts top) items.Alert

  -- where the table of the flight phase does
  abbrev pub phase_fault : ℕ → Asked → Option BookFault
  phase_fault code asked = at_section top code section.Phase (codes "phase") (λ value. whole (item_fails (names_of top) asked items.Phase value))

  -- the first section that does, and its first item; of those whose conditions are drafted other rules may be asked for
  unfoldable pub asked_fault : ℕ → Asked → Asked → Option BookFault
  asked_fault code asked drafted = first_of (
      system_fault code asked
      ∷ items_fault code asked section.Page (codes "page") PAGES items.Page
      ∷ items_fault code asked section.Param (codes "param") PARAMETERS items.Param
      ∷ items_fault code drafted section.Term (codes "term") NAMED_TERMS items.Term
      ∷ phase_fault code drafted
      ∷ alerts_fault code drafted
      ∷ items_fault code drafted section.Memo (codes "memo") MEMOS items.Memo
      ∷ [])

  -- the first named condition whose name is taken
  abbrev pub taken_fault : Option BookFault
  taken_fault = fault_at 11 section.Term (first_item (λ i n. is_taken top n) (names_in (codes "term") top))

  -- the first of these codes whose rule is broken
  abbrev pub rule_faults : List (ℕ × Rule) → Option BookFault
  rule_faults coded = first_of (map (λ r. asked_fault r.0 (One r.1) (One r.1)) coded)

  -- the first fault below the top
  abbrev pub ordered_fault : Option BookFault
  ordered_fault = option_or (rule_faults before_names) (option_or (repeated_fault top) (rule_faults after_names))

  -- the fault of the top alone
  abbrev pub top_fault : Option BookFault
  top_fault = first_of (
      fault_at 3 section.Top (whole (is_none (version top)))
      ∷ fault_at 4 section.Top (whole (not (has_only (top_keys (is_second top)) top)))
      ∷ [])
