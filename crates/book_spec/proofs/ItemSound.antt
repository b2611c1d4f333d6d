-- The items of a document without a fault keep their limits, and each has the name that its table holds.
use Rattle.std.proofs.Common.{◌≡◌, ◌≤◌, true, false, List, [], map, length, get_or, Some, sym, ap, ◌∙◌, arith}
use Rattle.std.specs.Prelude.{codes, unwrap_or}
use Rattle.std.specs.List.{All}
use Rattle.std.proofs.lemmas.List.{length-map}
use Rattle.std.proofs.lemmas.List.Elements.{recursion_from_All, All-map, All-weaker}
use Rattle.toml.specs.Data.{Data, Members, as_table}
use Rattle.ecam_spec.specs.declared.kinds.Colour.TheVariants.{Green}
use Rattle.ecam_spec.specs.BookText.{is_name}
use Rattle.ecam_spec.specs.Draft.{DraftAlert}
use Rattle.ecam_spec.specs.KeepsLimits.{IsSoundRow, IsSoundSource, IsSoundLine, IsSoundStatus, IsSoundPage, IsSoundParameter, IsSoundPhase, IsSoundAlert, IsSoundMemo}
use Rattle.book_spec.specs.Fields.{◌>>=◌, string_at}
use Rattle.book_spec.specs.Schema.{Key, needs, kind_at, page_keys, param_keys, named_keys, alert_keys, memo_keys, item_keys}
use Rattle.book_spec.specs.Rules.{Names, list_in}
use Rattle.book_spec.specs.TableRules.{table_breaks, shape_breaks, item_breaks}
use Rattle.book_spec.specs.Document.{name_of}
use Rattle.book_spec.specs.DraftOf.{row_in, source_in, line_in, status_in, page_in, parameter_in, phase_in, alert_in, memo_in}
use Rattle.book_spec.specs.Defaults.{table_in, name_or_none, short_name}
use Rattle.book_spec.specs.declared.schema.Leaf.TheVariants.{Name, System, Alerts}
use Rattle.book_spec.specs.declared.schema.Leaf.TheVariants as leaves
use Rattle.book_spec.specs.declared.schema.Inner.TheVariants as inner
use Rattle.book_spec.specs.declared.schema.Shape.{Shape}
use Rattle.book_spec.specs.declared.schema.Shape.TheVariants as shapes
use Rattle.book_spec.specs.declared.schema.Item.{Item}
use Rattle.book_spec.specs.declared.schema.Item.TheVariants as items
use Rattle.book_spec.proofs.TermSound.{AllKnown, term_sound}
use Rattle.book_spec.proofs.ValueBounds.{number_bounds, phases_bound, place_there, short_bound, colour_told}
use Rattle.book_spec.proofs.KeyFacts.{Keeps, BreaksNone, table_there, keys_kept, tables_in, needed_tables}
use Rattle.book_spec.proofs.LeafFacts.{leaf_of, text_kept, name_kept, name_same, system_kept, alerts_kept}
use Rattle.book_spec.proofs.PartSound.{row_sound, source_sound, line_sound, status_sound}

-- a list that is read item by item
pub map_so : {X Y : Type 0} (P : X → Type 0) (Q : Y → Type 0) (read : X → Y) → ((x : X) → P x → Q (read x)) → (xs : List X) → All P xs → All Q (map read xs)
map_so P Q read one xs all = All-map Q read xs (All-weaker P (λ x. Q (read x)) one xs all)

always_so : {X Y : Type 0} (Q : Y → Type 0) (read : X → Y) → ((x : X) → Q (read x)) → (xs : List X) → All Q (map read xs)
always_so Q read one xs = All-map Q read xs (λ i d within. one (get_or xs i d))

module _ (names : Names) where
  abbrev pub ItemKept : Item → Data → Type 0
  ItemKept item value = BreaksNone (λ rule. item_breaks names rule item) value

  abbrev KeyKept : Members → Key Shape → Type 0
  KeyKept table key = Keeps (shape_breaks names) table key

  pub item_table : (item : Item) (value : Data) → ItemKept item value → as_table value ≡ Some (table_in value)
  unfolding item_breaks
  item_table item value h = (table_there (λ rule t. table_breaks (shape_breaks names rule) rule (item_keys item t) t) value h).0

  item_kept : (item : Item) (value : Data) → ItemKept item value → All (KeyKept (table_in value)) (item_keys item (table_in value))
  unfolding item_breaks
  item_kept item value h =
      keys_kept (shape_breaks names) (item_keys item (table_in value)) (table_in value)
      (table_there (λ rule t. table_breaks (shape_breaks names rule) rule (item_keys item t) t) value h).1

  -- the name of an item that breaks no rule is the one that its table holds
  named : (item : Item) (value : Data) → ItemKept item value → KeyKept (table_in value) (needs (codes "name") (shapes.Leaf Name)) → name_or_none (table_in value) ≡ name_of value
  named item value h k =
      name_same names (table_in value) (leaf_of names (table_in value) (codes "name") true Name k)
      ∙ ap (λ o. unwrap_or (o >>= string_at (codes "name")) []) (sym (item_table item value h))

  -- ---- pages

  page_all : (value : Data) → ItemKept items.Page value → All (KeyKept (table_in value)) page_keys
  unfolding item_keys
  page_all value h = item_kept items.Page value h

  pub page_named : (value : Data) → ItemKept items.Page value → (page_in names value).name ≡ name_of value
  unfolding page_in page_keys
  page_named value h = named items.Page value h (recursion_from_All (KeyKept (table_in value)) page_keys (page_all value h)).0

  pub page_sound : (value : Data) → ItemKept items.Page value → IsSoundPage (length names.of_terms.parameters) (page_in names value)
  unfolding page_in page_keys
  page_sound value h =
      let t = table_in value in
      let k = recursion_from_All (KeyKept t) page_keys (page_all value h) in
      let rows = tables_in names (codes "row") inner.Row 17 t k.1.1.1.0 in
      record {
        name = name_kept names t (leaf_of names t (codes "name") true Name k.0);
        title = text_kept names t 36 36 (codes "title") (omega arith) (leaf_of names t (codes "title") true (leaves.Text 36) k.1.0);
        phases = phases_bound (codes "phases") t;
        row_count = omega (arith, rows.count, length-map (list_in (codes "row") t) (row_in names));
        rows = map_so _ (IsSoundRow (length names.of_terms.parameters)) (row_in names) (row_sound names) (list_in (codes "row") t) rows.each_kept;
      }

  -- ---- parameters

  param_all : (value : Data) → ItemKept items.Param value → All (KeyKept (table_in value)) (param_keys (kind_at (table_in value)))
  unfolding item_keys
  param_all value h = item_kept items.Param value h

  pub parameter_named : (value : Data) → ItemKept items.Param value → (parameter_in value).name ≡ name_of value
  unfolding parameter_in param_keys
  parameter_named value h = named items.Param value h (recursion_from_All (KeyKept (table_in value)) (param_keys (kind_at (table_in value))) (param_all value h)).0

  pub parameter_sound : (value : Data) → ItemKept items.Param value → IsSoundParameter (parameter_in value)
  unfolding parameter_in param_keys
  parameter_sound value h =
      let t = table_in value in
      let kind = kind_at t in
      let k = recursion_from_All (KeyKept t) (param_keys kind) (param_all value h) in
      let stale = number_bounds 1 600 (codes "stale") t (omega arith) in
      let sources = needed_tables names (codes "source") (inner.Source kind) 1 3 t k.1.1.1.0 in
      let count = length-map (list_in (codes "source") t) source_in in
      record {
        name = name_kept names t (leaf_of names t (codes "name") true Name k.0);
        stale_low = stale.0;
        stale_high = stale.1;
        some_source = omega (arith, sources.1, count);
        source_count = omega (arith, sources.0.count, count);
        sources = always_so IsSoundSource source_in source_sound (list_in (codes "source") t);
      }

  -- ---- the named conditions

  pub named_name : (value : Data) → ItemKept items.Term value → is_name (name_or_none (table_in value)) ≡ true
  unfolding item_keys named_keys
  named_name value h =
      let t = table_in value in
      let k = recursion_from_All (KeyKept t) named_keys (item_kept items.Term value h) in
      name_kept names t (leaf_of names t (codes "name") true Name k.0)

  pub named_named : (value : Data) → ItemKept items.Term value → name_or_none (table_in value) ≡ name_of value
  unfolding item_keys named_keys
  named_named value h = named items.Term value h (recursion_from_All (KeyKept (table_in value)) named_keys (item_kept items.Term value h)).0

  -- ---- the flight phase

  pub phase_sound : AllKnown names → (table : Members) → IsSoundPhase (length names.of_terms.parameters) (length names.of_terms.alerts) (phase_in names table)
  unfolding phase_in
  phase_sound known table = record {
    gnd = term_sound names known true (codes "gnd") table;
    run = term_sound names known false (codes "run") table;
    tp = term_sound names known false (codes "tp") table;
    fast = term_sound names known false (codes "fast") table;
    high = term_sound names known false (codes "high") table;
    low = term_sound names known false (codes "low") table;
  }

  -- ---- alerts

  alert_all : (value : Data) → ItemKept items.Alert value → All (KeyKept (table_in value)) alert_keys
  unfolding item_keys
  alert_all value h = item_kept items.Alert value h

  pub alert_named : (value : Data) → ItemKept items.Alert value → (alert_in names value).name ≡ name_of value
  unfolding alert_in alert_keys
  alert_named value h = named items.Alert value h (recursion_from_All (KeyKept (table_in value)) alert_keys (alert_all value h)).0

  abbrev pub SoundAlert : DraftAlert → Type 0
  SoundAlert a = IsSoundAlert (length names.of_terms.parameters) (length names.of_terms.alerts) (length names.systems) (length names.pages) a

  pub alert_sound : AllKnown names → (value : Data) → ItemKept items.Alert value → SoundAlert (alert_in names value)
  unfolding alert_in alert_keys
  alert_sound known value h =
      let t = table_in value in
      let k = recursion_from_All (KeyKept t) alert_keys (alert_all value h) in
      let confirm = number_bounds 0 36000 (codes "confirm") t (omega arith) in
      let secondary = alerts_kept names t (codes "secondary") (leaf_of names t (codes "secondary") false Alerts k.1.1.1.1.1.1.1.1.1.0) in
      let lines = tables_in names (codes "line") inner.Line 16 t k.1.1.1.1.1.1.1.1.1.1.0 in
      let status = tables_in names (codes "status") inner.Status 8 t k.1.1.1.1.1.1.1.1.1.1.1.0 in
      record {
        name = name_kept names t (leaf_of names t (codes "name") true Name k.0);
        title = text_kept names t 36 36 (codes "title") (omega arith) (leaf_of names t (codes "title") true (leaves.Text 36) k.1.0);
        system = system_kept names t (codes "system") (leaf_of names t (codes "system") true System k.1.1.0);
        when = term_sound names known false (codes "when") t;
        page = place_there names.pages (string_at (codes "page") t);
        confirm = confirm.1;
        inhibit = phases_bound (codes "inhibit") t;
        secondary = omega (arith, secondary, length-map (list_in (codes "secondary") t) short_name);
        short_names = always_so (λ n. length n ≤ 24) short_name short_bound (list_in (codes "secondary") t);
        line_count = omega (arith, lines.count, length-map (list_in (codes "line") t) (line_in names));
        lines = map_so _ (IsSoundLine (length names.of_terms.parameters) (length names.of_terms.alerts)) (line_in names) (line_sound names known) (list_in (codes "line") t) lines.each_kept;
        status_count = omega (arith, status.count, length-map (list_in (codes "status") t) status_in);
        status = map_so _ IsSoundStatus status_in (status_sound names) (list_in (codes "status") t) status.each_kept;
      }

  -- ---- memos

  memo_all : (value : Data) → ItemKept items.Memo value → All (KeyKept (table_in value)) memo_keys
  unfolding item_keys
  memo_all value h = item_kept items.Memo value h

  pub memo_named : (value : Data) → ItemKept items.Memo value → (memo_in names value).name ≡ name_of value
  unfolding memo_in memo_keys
  memo_named value h = named items.Memo value h (recursion_from_All (KeyKept (table_in value)) memo_keys (memo_all value h)).0

  pub memo_sound : AllKnown names → (value : Data) → ItemKept items.Memo value → IsSoundMemo (length names.of_terms.parameters) (length names.of_terms.alerts) (memo_in names value)
  unfolding memo_in memo_keys
  memo_sound known value h =
      let t = table_in value in
      let k = recursion_from_All (KeyKept t) memo_keys (memo_all value h) in
      record {
        name = name_kept names t (leaf_of names t (codes "name") true Name k.0);
        text = text_kept names t 36 36 (codes "text") (omega arith) (leaf_of names t (codes "text") true (leaves.Text 36) k.1.0);
        colour = colour_told Green (λ e. cc) (codes "colour") t;
        when = term_sound names known false (codes "when") t;
      }
