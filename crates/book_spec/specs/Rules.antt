-- The rules that the values of a document keep which hold no tables. Each asks only for what the rules before it
-- leave: a value of another type breaks the rule of types alone.
use Rattle.std.specs.Prelude.{Option, ℕ, pos, Bool, true, false, not, ◌&&◌, ◌||◌, List, [], ◌∷◌, length, Some, None, is_some, is_none, int_le, option_map}
use Rattle.std.specs.List.{list_any}
use Rattle.toml.specs.Data.{Data, Items, no_items, item, Members, get_member, as_str, as_integer, as_array}
use Rattle.ecam_spec.specs.declared.limits.TheConstants.{SECONDARIES, PHASES}
use Rattle.ecam_spec.specs.Book.{Text}
use Rattle.ecam_spec.specs.BookText.{is_name, is_text, is_term_text}
use Rattle.ecam_spec.specs.Bytes.{same_text, is_between}
use Rattle.ecam_spec.specs.TermText.{TermNames, Outcome, syntax_error, unknown, number_error, too_deep, too_large}
use Rattle.book_spec.specs.Verdict.{verdict}
use Rattle.book_spec.specs.Fields.{label_from, term_text_in}
use Rattle.book_spec.specs.Schema.{is_word}
use Rattle.book_spec.specs.declared.schema.Leaf.{Leaf}
use Rattle.book_spec.specs.declared.schema.Leaf.TheVariants.{Name, Term, Label, Word, Page, System, Parameter, Alerts, Phases, Number}
use Rattle.book_spec.specs.declared.schema.Leaf.TheVariants as leaves
use Rattle.book_spec.specs.declared.schema.Rule.{Rule}
use Rattle.book_spec.specs.declared.schema.Rule.TheVariants as rules

-- the names that the values of a document may use
pub record Names : Type 0 where
  pub systems : List Text
  pub pages : List Text
  pub of_terms : TermNames

-- ---- lists

abbrev pub values : Items → List Data
values no_items = []
values (item first rest) = first ∷ values rest

-- the members of a list; what is no list has none
abbrev pub members_of : Data → List Data
members_of value = elim (as_array value) [ None ↦ [] | Some list ↦ values list ]

-- the members of the list at a key, none where there is none
unfoldable pub list_in : Text → Members → List Data
list_in key table = elim (get_member key table) [ None ↦ [] | Some value ↦ members_of value ]

-- it is no list, or has a member that isn't so
abbrev pub is_no_list_of : (Data → Bool) → Data → Bool
is_no_list_of is_so value = is_none (as_array value) || list_any (λ d. not (is_so d)) (members_of value)

-- it is a list with fewer members than the first, or more than the second
abbrev pub has_wrong_count : ℕ → ℕ → Data → Bool
has_wrong_count low high value = is_some (as_array value) && not (is_between low high (length (members_of value)))

-- ---- values without tables

-- it is a string, and fails the test
abbrev pub string_fails : (Text → Bool) → Data → Bool
string_fails test value = elim (as_str value) [ None ↦ false | Some text ↦ not (test text) ]

-- it is a whole number that isn't from the first to the second
abbrev pub number_fails : ℕ → ℕ → Data → Bool
number_fails low high value = elim (as_integer value) [ None ↦ false | Some n ↦ not (int_le (pos low) n && int_le n (pos high)) ]

abbrev pub is_string : Data → Bool
is_string value = is_some (as_str value)

abbrev pub is_whole_number : Data → Bool
is_whole_number value = is_some (as_integer value)

-- its type is another than the one that is listed
unfoldable pub has_wrong_type : Leaf → Data → Bool
has_wrong_type (Number low high) value = not (is_whole_number value)
has_wrong_type Phases value = is_no_list_of is_whole_number value
has_wrong_type Alerts value = is_no_list_of is_string value
has_wrong_type _ value = not (is_string value)

abbrev pub is_among : List Text → Text → Bool
is_among names name = list_any (same_text name) names

-- what the text of a condition is refused for
abbrev pub is_misspelled : Outcome → Bool
is_misspelled (syntax_error at) = true
is_misspelled _ = false

abbrev pub has_unknown : Outcome → Bool
has_unknown (unknown at) = true
has_unknown _ = false

abbrev pub is_too_much : Outcome → Bool
is_too_much too_deep = true
is_too_much too_large = true
is_too_much _ = false

abbrev pub has_wrong_number : Outcome → Bool
has_wrong_number (number_error at) = true
has_wrong_number _ = false

-- the rules of texts and labels that a value of a leaf keeps
abbrev pub has_wrong_form : Leaf → Data → Bool
has_wrong_form (leaves.Text most) value = string_fails (is_text most) value
has_wrong_form Term value = string_fails is_term_text value
has_wrong_form _ value = false

abbrev pub is_out_of_range : Leaf → Data → Bool
is_out_of_range (Number low high) value = number_fails low high value
is_out_of_range Phases value = list_any (number_fails 1 10) (members_of value)
is_out_of_range _ value = false

abbrev pub is_too_long : Leaf → Data → Bool
is_too_long Phases value = has_wrong_count 0 PHASES value
is_too_long Alerts value = has_wrong_count 0 SECONDARIES value
is_too_long _ value = false

abbrev pub is_no_word : Leaf → Data → Bool
is_no_word (Word list) value = string_fails (is_word list) value
is_no_word _ value = false

-- the leaf is this one, and its string fails the test
abbrev pub name_fails : Leaf → Data → Bool
name_fails Name value = string_fails is_name value
name_fails _ value = false

abbrev pub label_fails : Leaf → Data → Bool
label_fails Label value = string_fails (λ t. is_some (label_from t)) value
label_fails _ value = false

module _ (names : Names) where
  -- what a condition's text is answered with; what hasn't the form of such a text has no answer
  unfoldable pub outcome_in : Data → Option Outcome
  outcome_in value = option_map (verdict names.of_terms) (term_text_in value)

  -- a condition's text is refused so
  abbrev pub term_fails : (Outcome → Bool) → Leaf → Data → Bool
  term_fails refused Term value = elim (outcome_in value) [ None ↦ false | Some outcome ↦ refused outcome ]
  term_fails refused _ value = false

  abbrev pub page_fails : Leaf → Data → Bool
  page_fails Page value = string_fails (is_among names.pages) value
  page_fails _ value = false

  abbrev pub system_fails : Leaf → Data → Bool
  system_fails System value = string_fails (is_among names.systems) value
  system_fails _ value = false

  abbrev pub parameter_fails : Leaf → Data → Bool
  parameter_fails Parameter value = string_fails (is_among names.of_terms.parameters) value
  parameter_fails _ value = false

  -- a value of a leaf breaks a rule
  unfoldable pub leaf_breaks : Rule → Leaf → Data → Bool
  leaf_breaks rules.Known leaf value = false
  leaf_breaks rules.Needed leaf value = false
  leaf_breaks rules.Typed leaf value = has_wrong_type leaf value
  leaf_breaks rules.Named leaf value = name_fails leaf value
  leaf_breaks rules.Written leaf value = has_wrong_form leaf value
  leaf_breaks rules.Ranged leaf value = is_out_of_range leaf value
  leaf_breaks rules.Counted leaf value = is_too_long leaf value
  leaf_breaks rules.Worded leaf value = is_no_word leaf value
  leaf_breaks rules.Labelled leaf value = label_fails leaf value
  leaf_breaks rules.Paged leaf value = page_fails leaf value
  leaf_breaks rules.Grouped leaf value = system_fails leaf value
  leaf_breaks rules.Spelled leaf value = term_fails is_misspelled leaf value
  leaf_breaks rules.Found leaf value = term_fails has_unknown leaf value || parameter_fails leaf value
  leaf_breaks rules.Small leaf value = term_fails is_too_much leaf value
  leaf_breaks rules.Measured leaf value = term_fails has_wrong_number leaf value
