-- The limits of a file without a fault fit the book.
use Rattle.std.proofs.Common.{◌≡◌, ◌≢◌, ℕ, ◌+◌, ◌<◌, Bool, true, false, not, ◌||◌, List, [], ◌∷◌, map, length, Option, Some, None, refl, sym, ◌∙◌, subst, inl, inr, arith}
use Rattle.std.specs.Prelude.{codes, get_or, is_some, is_none, nat_le, unwrap_or, if◌then◌else◌}
use Rattle.std.specs.List.{All, list_any, position_from}
use Rattle.std.proofs.lemmas.Bool.{cases_Bool, or_parts}
use Rattle.std.proofs.lemmas.List.Elements.{All-cons, All-nil, All-head, All-tail}
use Rattle.toml.specs.Data.{Data, table as a_table, Members, get_member, as_str}
use Rattle.ecam_spec.specs.Book.{Text, Book}
use Rattle.book_spec.specs.Fields.{◌>>=◌, string_at}
use Rattle.book_spec.specs.Rules.{string_fails, is_string}
use Rattle.book_spec.specs.TableRules.{if_there}
use Rattle.book_spec.specs.Document.{names_in}
use Rattle.book_spec.specs.BookBytes.{table_of_text}
use Rattle.book_spec.specs.Defaults.{table_in}
use Rattle.view_spec.specs.Advisories.{Advisory, IsWithin, Fit}
use Rattle.view_spec.specs.Places.{number_place, page_place}
use Rattle.view_spec.proofs.NamedPlaces.{number_within, page_within}
use Rattle.limits_spec.specs.Rules.{so_at, text_keys, needed_keys, lacks_key, has_wrong_type, table_breaks, item_breaks}
use Rattle.limits_spec.specs.Document.{advisories_in, table_fault}
use Rattle.limits_spec.specs.LimitsOf.{advisory_in, limits_of}
use Rattle.limits_spec.specs.LimitsBytes.{document_limits, limits}
use Rattle.limits_spec.specs.declared.form.TheConstants.{LIMITS_BYTES}
use Rattle.limits_spec.specs.declared.form.LimitsFault.{LimitsFault}
use Rattle.limits_spec.specs.declared.form.Rule.TheVariants as rules
use Rattle.limits_spec.proofs.FaultFree.{all_needed, all_typed, all_measured, all_paged}

-- ---- a key

-- a key that has to hold a text which passes a test holds one
module _ (P : ℕ → Type 0) (place : Text → Option ℕ) (within : (name : Text) (p : ℕ) → place name ≡ Some p → P p) where
  placed_so : (name : Text) → not (is_some (place name)) ≡ false → P (unwrap_or (place name) 0)
  placed_so name h =
      elim (place name) as (λ o. place name ≡ o → not (is_some o) ≡ false → P (unwrap_or o 0)) [
        | None ↦ λ e k. absurd (cc)
        | Some p ↦ λ e k. within name p e
      ] refl h

  string_so : (text : Option Text) → not (is_some text) ≡ false → elim text as (λ o. Bool) [ None ↦ false | Some name ↦ not (is_some (place name)) ] ≡ false
      → P (unwrap_or (text >>= place) 0)
  string_so None there passes = absurd (cc)
  string_so (Some name) there passes = placed_so name passes

  at_key : (o : Option Data) → is_none o ≡ false → if_there (λ v. not (is_string v)) o ≡ false → if_there (string_fails (λ name. is_some (place name))) o ≡ false
      → P (unwrap_or (o >>= as_str >>= place) 0)
  at_key None there typed passes = absurd (cc)
  at_key (Some value) there typed passes = string_so (as_str value) typed passes

-- ---- an advisory

module _ (b : Book) (names : List Text) where
  -- the rules that its parameter and its page rest on
  pub record IsSound (table : Members) : Type 0 where
    pub needed : table_breaks b names rules.Needed table ≡ false
    pub typed : table_breaks b names rules.Typed table ≡ false
    pub measured : table_breaks b names rules.Measured table ≡ false
    pub paged : table_breaks b names rules.Paged table ≡ false

  module _ (table : Members) (sound : IsSound table) where
    abbrev missing : Text → Bool
    missing key = is_none (get_member key table)

    abbrev no_text : Text → Bool
    no_text key = so_at key (λ value. not (is_string value)) table

    -- the keys after the name, the parameter and the page
    param_there : (missing (codes "param") ≡ false) × (missing (codes "page") ≡ false)
    unfolding table_breaks lacks_key needed_keys text_keys
    param_there =
        let after_name = (or_parts (missing (codes "name")) _ sound.needed).1 in
        let param = or_parts (missing (codes "param")) _ after_name in
        (param.0, (or_parts (missing (codes "page")) _ param.1).0)

    texts_there : (no_text (codes "param") ≡ false) × (no_text (codes "page") ≡ false)
    unfolding table_breaks has_wrong_type text_keys
    texts_there =
        let texts : list_any no_text text_keys ≡ false = (or_parts _ _ (or_parts _ _ sound.typed).0).0 in
        let after_name = (or_parts (no_text (codes "name")) _ texts).1 in
        let param = or_parts (no_text (codes "param")) _ after_name in
        (param.0, (or_parts (no_text (codes "page")) _ param.1).0)

    param_within : unwrap_or (string_at (codes "param") table >>= number_place b) 0 < length b.parameters
    unfolding string_at table_breaks
    param_within = at_key (λ p. p < length b.parameters) (number_place b) (number_within b) (get_member (codes "param") table) param_there.0 texts_there.0 sound.measured

    page_within_book : unwrap_or (string_at (codes "page") table >>= page_place b) 0 < length b.pages
    unfolding string_at table_breaks
    page_within_book = at_key (λ p. p < length b.pages) (page_place b) (page_within b) (get_member (codes "page") table) param_there.1 texts_there.1 sound.paged

  -- what is a table, and breaks none of these rules
  item_sound : (value : Data) → item_breaks b names rules.Needed value ≡ false → item_breaks b names rules.Typed value ≡ false
      → item_breaks b names rules.Measured value ≡ false → item_breaks b names rules.Paged value ≡ false → IsSound (table_in value)
  unfolding item_breaks
  item_sound (a_table fields) needed typed measured paged = record { needed = needed; typed = typed; measured = measured; paged = paged }
  item_sound _ needed typed measured paged = absurd (cc)

  item_fits : (value : Data) → IsSound (table_in value) → IsWithin b (advisory_in b value)
  unfolding advisory_in
  item_fits value sound = record { param = param_within (table_in value) sound; page = page_within_book (table_in value) sound }

-- ---- the whole

each_fits : (b : Book) (names : List Text) (values : List Data) → All (λ v. IsSound b names (table_in v)) values → All (IsWithin b) (map (advisory_in b) values)
each_fits b names [] all = All-nil (IsWithin b)
each_fits b names (v ∷ values) all =
    All-cons (IsWithin b) (advisory_in b v) (map (advisory_in b) values) (item_fits b names v (All-head (λ x. IsSound b names (table_in x)) v values all))
    (each_fits b names values (All-tail (λ x. IsSound b names (table_in x)) v values all))

table_fits : (b : Book) (top : Members) → table_fault b top ≡ None → Fit b (limits_of b top)
unfolding limits_of
table_fits b top none =
    let names = names_in (codes "advisory") top in
    each_fits b names (advisories_in top)
    (λ k v within. item_sound b names (get_or (advisories_in top) k v) (all_needed b top none k v within) (all_typed b top none k v within) (all_measured b top none k v within) (all_paged b top none k v within))

faultless : (b : Book) (top : Members) (fault : Option LimitsFault) → table_fault b top ≡ fault → (l : List Advisory) → (if is_none fault then Some (limits_of b top) else None) ≡ Some l → Fit b l
faultless b top None told l h = let same : limits_of b top ≡ l = cc in subst (Fit b) same (table_fits b top told)
faultless b top (Some fault) told l h = absurd (cc)

document_fits : (b : Book) (table : Option Members) (l : List Advisory) → document_limits b table ≡ Some l → Fit b l
document_fits b None l h = absurd (cc)
document_fits b (Some top) l h = faultless b top (table_fault b top) refl l h

short_fits : (short : Bool) (b : Book) (table : Option Members) (l : List Advisory) → (if short then document_limits b table else None) ≡ Some l → Fit b l
short_fits true b table l h = document_fits b table l h
short_fits false b table l h = absurd (cc)

pub limits_fit : (b : Book) (bytes : Text) (l : List Advisory) → limits b bytes ≡ Some l → Fit b l
unfolding limits
limits_fit b bytes l h = short_fits (nat_le (length bytes) LIMITS_BYTES) b (table_of_text bytes) l h
