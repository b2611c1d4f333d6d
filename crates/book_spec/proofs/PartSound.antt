-- The rows, the sources and the lines of a document without a fault keep their limits.
use Rattle.std.proofs.Common.{◌≡◌, ℕ, ◌≤◌, Bool, true, false, length, Option, Some, None, refl, sym, ap, subst, arith}
use Rattle.std.specs.Prelude.{is_some, codes}
use Rattle.std.specs.List.{All}
use Rattle.std.proofs.lemmas.List.Elements.{recursion_from_All}
use Rattle.toml.specs.Data.{Data, Members, get_member, as_str}
use Rattle.ecam_spec.specs.declared.kinds.Colour.TheVariants.{White, Cyan}
use Rattle.ecam_spec.specs.BookText.{is_text}
use Rattle.ecam_spec.specs.Bytes.{place_of}
use Rattle.ecam_spec.specs.KeepsLimits.{row_text_limit, IsSoundRow, IsSoundSource, IsSoundLine, IsSoundStatus}
use Rattle.book_spec.specs.Fields.{◌>>=◌, string_at}
use Rattle.book_spec.specs.Schema.{row_keys, line_keys, status_keys, inner_keys}
use Rattle.book_spec.specs.Rules.{Names, leaf_breaks}
use Rattle.book_spec.specs.TableRules.{table_breaks, inner_breaks}
use Rattle.book_spec.specs.DraftOf.{row_in, source_in, line_in, status_in}
use Rattle.book_spec.specs.Defaults.{table_in, text_or_none}
use Rattle.book_spec.specs.declared.schema.Inner.{Inner}
use Rattle.book_spec.specs.declared.schema.Inner.TheVariants as inner
use Rattle.book_spec.proofs.TermSound.{AllKnown, term_sound}
use Rattle.book_spec.proofs.ValueBounds.{number_bounds, number_below, label_bound, text_there, place_there, colour_told, section_bound}
use Rattle.book_spec.proofs.KeyFacts.{Keeps, BreaksNone, table_there, keys_kept}
use Rattle.book_spec.proofs.LeafFacts.{text_kept}

-- a source keeps its limits, whatever its table holds
pub source_sound : (value : Data) → IsSoundSource (source_in value)
unfolding source_in
source_sound value =
    let t = table_in value in
    let bus = number_bounds 0 15 (codes "bus") t (omega arith) in
    let bit = number_bounds 11 29 (codes "bit") t (omega arith) in
    let low = number_bounds 11 28 (codes "low") t (omega arith) in
    let range = number_bounds 1 1000000 (codes "range") t (omega arith) in
    record {
      bus = omega (arith, bus.1);
      label = label_bound (codes "label") t;
      sdi = number_below 3 (codes "sdi") t;
      bit_low = bit.0;
      bit_high = bit.1;
      low_low = low.0;
      low_high = low.1;
      range_low = range.0;
      range_high = range.1;
    }

missing : (value : Option Data) → is_some value ≡ false → value ≡ None
missing None h = refl
missing (Some value) h = absurd (cc)

module _ (names : Names) where
  abbrev InnerKept : Inner → Data → Type 0
  InnerKept part value = BreaksNone (λ rule. inner_breaks names rule part) value

  -- the keys of a table inside an item
  inner_kept : (part : Inner) (value : Data) → InnerKept part value → All (Keeps (leaf_breaks names) (table_in value)) (inner_keys part (table_in value))
  unfolding inner_breaks
  inner_kept part value h =
      let there = table_there (λ rule t. table_breaks (leaf_breaks names rule) rule (inner_keys part t) t) value h in
      keys_kept (leaf_breaks names) (inner_keys part (table_in value)) (table_in value) there.1

  row_limit : (show : Option ℕ) → 24 ≤ row_text_limit show
  row_limit None = omega arith
  row_limit (Some p) = omega arith

  -- the text of a row that shows a value is shorter
  row_text : (table : Members) (shows : Bool) → is_some (get_member (codes "show") table) ≡ shows → All (Keeps (leaf_breaks names) table) (row_keys shows)
      → (let limit = row_text_limit (string_at (codes "show") table >>= place_of names.of_terms.parameters) in is_text limit (text_or_none limit (codes "text") table) ≡ true)
  unfolding row_keys string_at
  row_text table true shown k = text_kept names table 24 _ (codes "text") (row_limit _) (recursion_from_All (Keeps (leaf_breaks names) table) (row_keys true) k).0
  row_text table false shown k =
      let IsShort : Option ℕ → Type 0 = λ o. is_text (row_text_limit o) (text_or_none (row_text_limit o) (codes "text") table) ≡ true in
      let none : (string_at (codes "show") table >>= place_of names.of_terms.parameters) ≡ None =
      ap (λ o. o >>= as_str >>= place_of names.of_terms.parameters) (missing (get_member (codes "show") table) shown) in
      let long = text_kept names table 36 36 (codes "text") (omega arith) (recursion_from_All (Keeps (leaf_breaks names) table) (row_keys false) k).0 in
      subst IsShort (sym none) long

  pub row_sound : (value : Data) → InnerKept inner.Row value → IsSoundRow (length names.of_terms.parameters) (row_in names value)
  unfolding row_in inner_keys
  row_sound value h =
      let t = table_in value in
      record {
        text = row_text t (is_some (get_member (codes "show") t)) refl (inner_kept inner.Row value h);
        show = place_there names.of_terms.parameters (string_at (codes "show") t);
        unit = text_there 6 (codes "unit") t;
        colour = colour_told White (λ e. cc) (codes "colour") t;
      }

  pub line_sound : AllKnown names → (value : Data) → InnerKept inner.Line value → IsSoundLine (length names.of_terms.parameters) (length names.of_terms.alerts) (line_in names value)
  unfolding line_in inner_keys line_keys
  line_sound known value h =
      let t = table_in value in
      let k = recursion_from_All (Keeps (leaf_breaks names) t) line_keys (inner_kept inner.Line value h) in
      record {
        text = text_kept names t 36 36 (codes "text") (omega arith) k.0;
        colour = colour_told Cyan (λ e. cc) (codes "colour") t;
        when = term_sound names known true (codes "when") t;
        done = term_sound names known false (codes "done") t;
      }

  pub status_sound : (value : Data) → InnerKept inner.Status value → IsSoundStatus (status_in value)
  unfolding status_in inner_keys status_keys
  status_sound value h =
      let t = table_in value in
      let k = recursion_from_All (Keeps (leaf_breaks names) t) status_keys (inner_kept inner.Status value h) in
      record {
        section = section_bound (codes "section") t;
        text = text_kept names t 36 36 (codes "text") (omega arith) k.1.0;
      }
