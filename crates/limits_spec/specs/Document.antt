-- Which fault a limits file has that its document's table shows: codes 3 to 13. Of several it is the one of the least
-- code, and among these the one of the least item, counted from 1; item 0 is the top, and the list as a whole.
use Rattle.std.specs.Prelude.{ℕ, Bool, false, not, List, [], ◌∷◌, map, codes, is_none, Option, option_map}
use Rattle.std.specs.Option.{option_or}
use Rattle.toml.specs.Data.{Data, Members, get_member, as_array}
use Rattle.ecam_spec.specs.Book.{Text, Book}
use Rattle.ecam_spec.specs.Faults.{first_item, whole}
use Rattle.ecam_spec.specs.Places.{first_of}
use Rattle.book_spec.specs.Fields.{has_only, number_at}
use Rattle.book_spec.specs.Rules.{list_in, has_wrong_count}
use Rattle.book_spec.specs.Document.{names_in}
use Rattle.limits_spec.specs.Rules.{so_at, item_breaks}
use Rattle.limits_spec.specs.declared.form.TheConstants.{ADVISORIES}
use Rattle.limits_spec.specs.declared.form.LimitsFault.{LimitsFault}
use Rattle.limits_spec.specs.declared.form.Rule.{Rule}
use Rattle.limits_spec.specs.declared.form.Rule.TheVariants as rules

-- the version of a document: 1, or none
abbrev pub version : Members → Option ℕ
version top = number_at 1 1 (codes "version") top

-- the keys of the whole document
unfoldable pub top_keys : List Text
top_keys = codes "version" ∷ codes "advisory" ∷ []

-- the rules by their codes
unfoldable pub coded_rules : List (ℕ × Rule)
coded_rules =
    (4, rules.Known) ∷ (5, rules.Needed) ∷ (6, rules.Typed) ∷ (7, rules.Named) ∷ (8, rules.Ranged) ∷ (9, rules.Counted)
    ∷ (10, rules.Single) ∷ (11, rules.Measured) ∷ (12, rules.Paged) ∷ (13, rules.Roomy) ∷ []

-- a fault of this code, at an item if there is one
abbrev pub fault_at : ℕ → Option ℕ → Option LimitsFault
fault_at code item = option_map (λ i. record { code = code; item = i }) item

-- the advisories
abbrev pub advisories_in : Members → List Data
advisories_in top = list_in (codes "advisory") top

-- the top, or the list as a whole, breaks a rule
unfoldable pub top_breaks : Rule → Members → Bool
top_breaks rules.Known top = not (has_only top_keys top)
top_breaks rules.Needed top = is_none (get_member (codes "advisory") top)
top_breaks rules.Typed top = so_at (codes "advisory") (λ value. is_none (as_array value)) top
top_breaks rules.Counted top = so_at (codes "advisory") (has_wrong_count 1 ADVISORIES) top
top_breaks _ top = false

module _ (b : Book) (top : Members) where
  -- the first item that breaks a rule
  unfoldable pub place_of_break : Rule → Option ℕ
  place_of_break rule =
      option_or (whole (top_breaks rule top))
      (first_item (λ i value. item_breaks b (names_in (codes "advisory") top) rule value) (advisories_in top))

  -- the first of these codes whose rule is broken
  abbrev pub rules_fault : List (ℕ × Rule) → Option LimitsFault
  rules_fault coded = first_of (map (λ r. fault_at r.0 (place_of_break r.1)) coded)

  -- the fault that the table shows
  unfoldable pub table_fault : Option LimitsFault
  table_fault = option_or (fault_at 3 (whole (is_none (version top)))) (rules_fault coded_rules)
