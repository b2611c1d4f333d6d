-- The rules that an advisory's table keeps. Each asks only for what the rules before it leave: a value of another type
-- breaks the rule of types alone.
use Rattle.std.specs.Prelude.{ℕ, pos, neg_ℤ, ℤ, ◌+ℤ◌, ◌-ℤ◌, Bool, false, not, ◌&&◌, ◌||◌, List, [], ◌∷◌, ◌++◌, codes, is_some, is_none, int_lt, int_le, unwrap_or, Some, None}
use Rattle.std.specs.List.{list_any}
use Rattle.toml.specs.Data.{Data, Members, get_member, as_integer, as_table}
use Rattle.ecam_spec.specs.declared.limits.TheConstants.{PHASES, NUMBER, WAIT}
use Rattle.ecam_spec.specs.Book.{Text, Book}
use Rattle.ecam_spec.specs.BookText.{is_name}
use Rattle.ecam_spec.specs.KeepsLimits.{is_repeated}
use Rattle.book_spec.specs.Fields.{◌>>=◌, has_only}
use Rattle.book_spec.specs.Rules.{list_in, is_no_list_of, has_wrong_count, string_fails, number_fails, is_string, is_whole_number}
use Rattle.book_spec.specs.TableRules.{if_there, if_table}
use Rattle.view_spec.specs.Places.{number_place, page_place}
use Rattle.limits_spec.specs.declared.form.Rule.{Rule}
use Rattle.limits_spec.specs.declared.form.Rule.TheVariants as rules

-- ---- keys

-- the keys that hold a text, and those that hold a whole number
unfoldable pub text_keys : List Text
text_keys = codes "name" ∷ codes "param" ∷ codes "page" ∷ []

unfoldable pub number_keys : List Text
number_keys = codes "low" ∷ codes "high" ∷ codes "margin" ∷ codes "confirm" ∷ []

-- all of these are needed, and a list of phases may be there
unfoldable pub needed_keys : List Text
needed_keys = text_keys ++ number_keys

unfoldable pub known_keys : List Text
known_keys = needed_keys ++ codes "inhibit" ∷ []

-- what stands at a key is so, where something stands there
abbrev pub so_at : Text → (Data → Bool) → Members → Bool
so_at key is_so table = if_there is_so (get_member key table)

-- the whole number at a key
abbrev pub integer_at : Text → Members → ℤ
integer_at key table = unwrap_or (get_member key table >>= as_integer) (pos 0)

-- it is a whole number that isn't from the first to the second
abbrev pub integer_fails : ℤ → ℤ → Data → Bool
integer_fails low high value = elim (as_integer value) [ None ↦ false | Some n ↦ not (int_le low n && int_le n high) ]

-- it is no number from one far below 0 to one as far above
abbrev pub bound_fails : Data → Bool
bound_fails = integer_fails (neg_ℤ (pos NUMBER)) (pos NUMBER)

-- ---- rules

unfoldable pub lacks_key : Members → Bool
lacks_key table = list_any (λ key. is_none (get_member key table)) needed_keys

unfoldable pub has_wrong_type : Members → Bool
has_wrong_type table =
    list_any (λ key. so_at key (λ value. not (is_string value)) table) text_keys
    || list_any (λ key. so_at key (λ value. not (is_whole_number value)) table) number_keys
    || so_at (codes "inhibit") (is_no_list_of is_whole_number) table

unfoldable pub has_wrong_number : Members → Bool
has_wrong_number table =
    so_at (codes "low") bound_fails table
    || so_at (codes "high") bound_fails table
    || so_at (codes "margin") (integer_fails (pos 0) (pos NUMBER)) table
    || so_at (codes "confirm") (integer_fails (pos 0) (pos WAIT)) table
    || list_any (number_fails 1 10) (list_in (codes "inhibit") table)

-- no value is inside the range by the margin
unfoldable pub has_no_room : Members → Bool
has_no_room table =
    let margin = integer_at (codes "margin") table in
    int_lt (integer_at (codes "high") table -ℤ margin) (integer_at (codes "low") table +ℤ margin)

module _ (b : Book) (names : List Text) where
  -- the table of an advisory breaks a rule, where these are the names of all of them
  unfoldable pub table_breaks : Rule → Members → Bool
  table_breaks rules.Known table = not (has_only known_keys table)
  table_breaks rules.Needed table = lacks_key table
  table_breaks rules.Typed table = has_wrong_type table
  table_breaks rules.Named table = so_at (codes "name") (string_fails is_name) table
  table_breaks rules.Ranged table = has_wrong_number table
  table_breaks rules.Counted table = so_at (codes "inhibit") (has_wrong_count 0 PHASES) table
  table_breaks rules.Single table = so_at (codes "name") (string_fails (λ name. not (is_repeated names name))) table
  table_breaks rules.Measured table = so_at (codes "param") (string_fails (λ name. is_some (number_place b name))) table
  table_breaks rules.Paged table = so_at (codes "page") (string_fails (λ name. is_some (page_place b name))) table
  table_breaks rules.Roomy table = has_no_room table

  -- what is no table breaks the rule of types
  abbrev pub is_no_table : Rule → Data → Bool
  is_no_table rules.Typed value = is_none (as_table value)
  is_no_table _ value = false

  unfoldable pub item_breaks : Rule → Data → Bool
  item_breaks rule value = is_no_table rule value || if_table (table_breaks rule) value
