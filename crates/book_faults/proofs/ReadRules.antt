-- The rules for which conditions are read: what keeps them where no condition is refused.
use Rattle.std.proofs.Common.{◌≡◌, ℕ, Bool, true, false, List, [], ◌∷◌, Option, Some, None, is_some, inl, inr, refl}
use Rattle.std.specs.Prelude.{codes, filter, unwrap_or}
use Rattle.std.specs.List.{list_any}
use Rattle.std.proofs.lemmas.Bool.{or_parts, cases_Bool}
use Rattle.toml.specs.Data.{Data, Members, no_members, get_member, as_table}
use Rattle.ecam_spec.specs.TermText.{Outcome, means}
use Rattle.book_spec.specs.Fields.{◌>>=◌}
use Rattle.book_spec.specs.Schema.{Key, line_keys, status_keys, named_keys, alert_keys, memo_keys, phase_keys, inner_keys, item_keys}
use Rattle.book_spec.specs.Rules.{Names, members_of, list_in, outcome_in, term_fails, parameter_fails, leaf_breaks, is_misspelled, has_unknown, is_too_much, has_wrong_number}
use Rattle.book_spec.specs.TableRules.{is_no_table, list_breaks, keys_break, if_there, table_breaks, if_table, inner_breaks, shape_breaks, item_breaks}
use Rattle.book_spec.specs.Defaults.{table_in}
use Rattle.book_spec.specs.declared.schema.Leaf.{Leaf}
use Rattle.book_spec.specs.declared.schema.Leaf.TheVariants as leaves
use Rattle.book_spec.specs.declared.schema.Inner.TheVariants as inner
use Rattle.book_spec.specs.declared.schema.Shape.{Shape}
use Rattle.book_spec.specs.declared.schema.Shape.TheVariants as shapes
use Rattle.book_spec.specs.declared.schema.Item.TheVariants as items
use Rattle.book_spec.specs.declared.schema.Rule.{Rule}
use Rattle.book_spec.specs.declared.schema.Rule.TheVariants as rules
use Rattle.book_tables.specs.Meant.{meant, meant_in}
use Rattle.book_faults.specs.Refused.{refuses}
use Rattle.book_faults.specs.Readable.{refused_at, refused_in_phase, refused_in_line, refused_in_alert, refused_in_memo}

pub data ReadRule : Type 0 where
  spelled : ReadRule
  found : ReadRule
  small : ReadRule
  measured : ReadRule

abbrev pub rule_of : ReadRule → Rule
rule_of spelled = rules.Spelled
rule_of found = rules.Found
rule_of small = rules.Small
rule_of measured = rules.Measured

-- ---- lists

-- what fails a test fails another one
pub any_weaker : {X : Type 0} (p q : X → Bool) → ((x : X) → p x ≡ false → q x ≡ false) → (xs : List X) → list_any p xs ≡ false → list_any q xs ≡ false
any_weaker p q weaker [] none = refl
any_weaker p q weaker (x ∷ xs) none =
    let parts = or_parts (p x) (list_any p xs) none in
    rw (weaker x parts.0) (any_weaker p q weaker xs parts.1)

-- those that are tested at all are enough
module _ {X : Type 0} (speaks test : X → Bool) (silent : (x : X) → speaks x ≡ false → test x ≡ false) where
  speaking : (xs : List X) → list_any test (filter speaks xs) ≡ false → list_any test xs ≡ false
  speaking [] none = refl
  speaking (x ∷ xs) none =
      elim (cases_Bool (speaks x)) [
        | inl so ↦ (let parts = or_parts (test x) (list_any test (filter speaks xs)) (rw so at none) in rw parts.0 (speaking xs parts.1))
        | inr other ↦ rw (silent x other) (speaking xs (rw other at none))
      ]

pub never_any : {X : Type 0} (xs : List X) → list_any (λ (x : X). false) xs ≡ false
never_any [] = refl
never_any (x ∷ xs) = never_any xs

there_weaker : (p q : Data → Bool) → ((v : Data) → p v ≡ false → q v ≡ false) → (o : Option Data) → if_there p o ≡ false → if_there q o ≡ false
there_weaker p q weaker None none = refl
there_weaker p q weaker (Some v) none = weaker v none

pub never_there : (q : Data → Bool) → ((v : Data) → q v ≡ false) → (o : Option Data) → if_there q o ≡ false
never_there q never None = refl
never_there q never (Some v) = never v

of_table : (q : Members → Bool) (value : Data) → q (table_in value) ≡ false → if_table q value ≡ false
of_table q value none =
    elim (as_table value) as (λ o. q (unwrap_or o no_members) ≡ false → (elim o as (λ o. Bool) [ None ↦ false | Some table ↦ q table ]) ≡ false) [
      | None ↦ λ h. refl
      | Some table ↦ λ h. h
    ] none

-- ---- what the rules ask of keys, lists and types

no_key : {S : Type 0} (r : ReadRule) (keys : List (Key S)) (table : Members) → keys_break (rule_of r) keys table ≡ false
no_key spelled keys table = refl
no_key found keys table = refl
no_key small keys table = refl
no_key measured keys table = refl

pub no_list : (r : ReadRule) (low high : ℕ) (value : Data) → list_breaks (rule_of r) low high value ≡ false
no_list spelled low high value = refl
no_list found low high value = refl
no_list small low high value = refl
no_list measured low high value = refl

no_type : (r : ReadRule) (value : Data) → is_no_table (rule_of r) value ≡ false
no_type spelled value = refl
no_type found value = refl
no_type small value = refl
no_type measured value = refl

-- ---- values without tables

abbrev speaks : Leaf → Bool
speaks leaves.Term = true
speaks leaves.Parameter = true
speaks _ = false

refused_as : (p : Outcome → Bool) → ((o : Outcome) → refuses o ≡ false → p o ≡ false) → (o : Option Outcome)
    → (elim o [ None ↦ false | Some outcome ↦ refuses outcome ]) ≡ false → (elim o [ None ↦ false | Some outcome ↦ p outcome ]) ≡ false
refused_as p weaker None none = refl
refused_as p weaker (Some o) none = weaker o none

not_misspelled : (o : Outcome) → refuses o ≡ false → is_misspelled o ≡ false
not_misspelled (means tree) h = refl
not_misspelled _ h = absurd (cc)

not_unknown : (o : Outcome) → refuses o ≡ false → has_unknown o ≡ false
not_unknown (means tree) h = refl
not_unknown _ h = absurd (cc)

not_too_much : (o : Outcome) → refuses o ≡ false → is_too_much o ≡ false
not_too_much (means tree) h = refl
not_too_much _ h = absurd (cc)

not_wrong : (o : Outcome) → refuses o ≡ false → has_wrong_number o ≡ false
not_wrong (means tree) h = refl
not_wrong _ h = absurd (cc)

module _ (names : Names) where
  no_term : (p : Outcome → Bool) (leaf : Leaf) (value : Data) → speaks leaf ≡ false → term_fails names p leaf value ≡ false
  no_term p leaves.Name value h = refl
  no_term p (leaves.Text most) value h = refl
  no_term p leaves.Term value h = absurd (cc)
  no_term p leaves.Label value h = refl
  no_term p (leaves.Word list) value h = refl
  no_term p leaves.Page value h = refl
  no_term p leaves.System value h = refl
  no_term p leaves.Parameter value h = refl
  no_term p leaves.Alerts value h = refl
  no_term p leaves.Phases value h = refl
  no_term p (leaves.Number low high) value h = refl

  no_parameter : (leaf : Leaf) (value : Data) → speaks leaf ≡ false → parameter_fails names leaf value ≡ false
  no_parameter leaves.Name value h = refl
  no_parameter (leaves.Text most) value h = refl
  no_parameter leaves.Term value h = refl
  no_parameter leaves.Label value h = refl
  no_parameter (leaves.Word list) value h = refl
  no_parameter leaves.Page value h = refl
  no_parameter leaves.System value h = refl
  no_parameter leaves.Parameter value h = absurd (cc)
  no_parameter leaves.Alerts value h = refl
  no_parameter leaves.Phases value h = refl
  no_parameter (leaves.Number low high) value h = refl

  silent : (r : ReadRule) (leaf : Leaf) (value : Data) → speaks leaf ≡ false → leaf_breaks names (rule_of r) leaf value ≡ false
  unfolding leaf_breaks
  silent spelled leaf value h = no_term is_misspelled leaf value h
  silent found leaf value h = rw (no_term has_unknown leaf value h) (no_parameter leaf value h)
  silent small leaf value h = no_term is_too_much leaf value h
  silent measured leaf value h = no_term has_wrong_number leaf value h

  -- a condition that isn't refused
  term_kept : (r : ReadRule) (value : Data) → term_fails names refuses leaves.Term value ≡ false → leaf_breaks names (rule_of r) leaves.Term value ≡ false
  unfolding leaf_breaks
  term_kept spelled value h = refused_as is_misspelled not_misspelled (outcome_in names value) h
  term_kept found value h = rw (refused_as has_unknown not_unknown (outcome_in names value) h) refl
  term_kept small value h = refused_as is_too_much not_too_much (outcome_in names value) h
  term_kept measured value h = refused_as has_wrong_number not_wrong (outcome_in names value) h

  term_at : (r : ReadRule) (o : Option Data) → if_there (term_fails names refuses leaves.Term) o ≡ false → if_there (leaf_breaks names (rule_of r) leaves.Term) o ≡ false
  term_at r o h = there_weaker (term_fails names refuses leaves.Term) (leaf_breaks names (rule_of r) leaves.Term) (term_kept r) o h

  -- ---- tables

  -- a table of which no key that speaks of a condition breaks a rule
  leaves_kept : (r : ReadRule) (keys : List (Key Leaf)) (table : Members)
      → list_any (λ (k : Key Leaf). if_there (leaf_breaks names (rule_of r) k.holds) (get_member k.name table)) (filter (λ (k : Key Leaf). speaks k.holds) keys) ≡ false
      → table_breaks (leaf_breaks names (rule_of r)) (rule_of r) keys table ≡ false
  leaves_kept r keys table h =
      rw (no_key r keys table)
      (speaking (λ (k : Key Leaf). speaks k.holds) (λ (k : Key Leaf). if_there (leaf_breaks names (rule_of r) k.holds) (get_member k.name table))
      (λ k is. never_there (leaf_breaks names (rule_of r) k.holds) (λ v. silent r k.holds v is) (get_member k.name table)) keys h)

  line_kept : (r : ReadRule) (value : Data) → refused_in_line names value ≡ false → inner_breaks names (rule_of r) inner.Line value ≡ false
  unfolding inner_breaks inner_keys line_keys
  line_kept r value h =
      let table = table_in value in
      let parts = or_parts (refused_at names (codes "when") table) (refused_at names (codes "done") table) h in
      rw (no_type r value)
      (of_table (λ t. table_breaks (leaf_breaks names (rule_of r)) (rule_of r) line_keys t) value
      (leaves_kept r line_keys table (rw (term_at r (get_member (codes "when") table) parts.0, term_at r (get_member (codes "done") table) parts.1) refl)))

  status_kept : (r : ReadRule) (value : Data) → inner_breaks names (rule_of r) inner.Status value ≡ false
  unfolding inner_breaks inner_keys status_keys
  status_kept r value =
      rw (no_type r value)
      (of_table (λ t. table_breaks (leaf_breaks names (rule_of r)) (rule_of r) status_keys t) value (leaves_kept r status_keys (table_in value) refl))

  -- ---- items

  abbrev says : Shape → Bool
  says (shapes.Leaf leaf) = speaks leaf
  says (shapes.Tables inner.Status low high) = false
  says (shapes.Tables _ low high) = true

  quiet : (r : ReadRule) (shape : Shape) (value : Data) → says shape ≡ false → shape_breaks names (rule_of r) shape value ≡ false
  unfolding shape_breaks
  quiet r (shapes.Leaf leaf) value h = silent r leaf value h
  quiet r (shapes.Tables inner.Status low high) value h =
      rw (no_list r low high value) (any_weaker (λ v. false) (inner_breaks names (rule_of r) inner.Status) (λ v e. status_kept r v) (members_of value) (never_any (members_of value)))
  quiet r (shapes.Tables inner.Row low high) value h = absurd (cc)
  quiet r (shapes.Tables (inner.Source kind) low high) value h = absurd (cc)
  quiet r (shapes.Tables inner.Line low high) value h = absurd (cc)

  shapes_kept : (r : ReadRule) (keys : List (Key Shape)) (table : Members)
      → list_any (λ (k : Key Shape). if_there (shape_breaks names (rule_of r) k.holds) (get_member k.name table)) (filter (λ (k : Key Shape). says k.holds) keys) ≡ false
      → table_breaks (shape_breaks names (rule_of r)) (rule_of r) keys table ≡ false
  shapes_kept r keys table h =
      rw (no_key r keys table)
      (speaking (λ (k : Key Shape). says k.holds) (λ (k : Key Shape). if_there (shape_breaks names (rule_of r) k.holds) (get_member k.name table))
      (λ k is. never_there (shape_breaks names (rule_of r) k.holds) (λ v. quiet r k.holds v is) (get_member k.name table)) keys h)

  shape_at : (r : ReadRule) (o : Option Data) → if_there (term_fails names refuses leaves.Term) o ≡ false → if_there (shape_breaks names (rule_of r) (shapes.Leaf leaves.Term)) o ≡ false
  unfolding shape_breaks
  shape_at r o h = there_weaker (term_fails names refuses leaves.Term) (shape_breaks names (rule_of r) (shapes.Leaf leaves.Term)) (term_kept r) o h

  lines_at : (r : ReadRule) (low high : ℕ) (o : Option Data) → list_any (refused_in_line names) (elim o [ None ↦ [] | Some value ↦ members_of value ]) ≡ false
      → if_there (shape_breaks names (rule_of r) (shapes.Tables inner.Line low high)) o ≡ false
  unfolding shape_breaks
  lines_at r low high None h = refl
  lines_at r low high (Some value) h =
      rw (no_list r low high value) (any_weaker (refused_in_line names) (inner_breaks names (rule_of r) inner.Line) (line_kept r) (members_of value) h)

  pub alert_kept : (r : ReadRule) (value : Data) → refused_in_alert names value ≡ false → item_breaks names (rule_of r) items.Alert value ≡ false
  unfolding item_breaks item_keys alert_keys list_in
  alert_kept r value h =
      let table = table_in value in
      let parts = or_parts (refused_at names (codes "when") table) (list_any (refused_in_line names) (list_in (codes "line") table)) h in
      rw (no_type r value)
      (of_table (λ t. table_breaks (shape_breaks names (rule_of r)) (rule_of r) alert_keys t) value
      (shapes_kept r alert_keys table (rw (shape_at r (get_member (codes "when") table) parts.0, lines_at r 0 16 (get_member (codes "line") table) parts.1) refl)))

  -- the text of a named condition means one
  meant_kept : (o : Option Outcome) → is_some (meant o) ≡ true → (elim o [ None ↦ false | Some outcome ↦ refuses outcome ]) ≡ false
  meant_kept None h = absurd (cc)
  meant_kept (Some (means tree)) h = refl
  meant_kept (Some _) h = absurd (cc)

  meant_at : (o : Option Data) → is_some (meant (o >>= outcome_in names)) ≡ true → if_there (term_fails names refuses leaves.Term) o ≡ false
  meant_at None h = refl
  meant_at (Some value) h = meant_kept (outcome_in names value) h

  pub named_kept : (r : ReadRule) (value : Data) → is_some (meant_in names value) ≡ true → item_breaks names (rule_of r) items.Term value ≡ false
  unfolding item_breaks item_keys named_keys
  named_kept r value h =
      let table = table_in value in
      rw (no_type r value)
      (of_table (λ t. table_breaks (shape_breaks names (rule_of r)) (rule_of r) named_keys t) value
      (shapes_kept r named_keys table (rw (shape_at r (get_member (codes "when") table) (meant_at (get_member (codes "when") table) h)) refl)))

  pub memo_kept : (r : ReadRule) (value : Data) → refused_in_memo names value ≡ false → item_breaks names (rule_of r) items.Memo value ≡ false
  unfolding item_breaks item_keys memo_keys
  memo_kept r value h =
      rw (no_type r value)
      (of_table (λ t. table_breaks (shape_breaks names (rule_of r)) (rule_of r) memo_keys t) value
      (shapes_kept r memo_keys (table_in value) (rw (shape_at r (get_member (codes "when") (table_in value)) h) refl)))

  pub phase_kept : (r : ReadRule) (value : Data) → refused_in_phase names (table_in value) ≡ false → item_breaks names (rule_of r) items.Phase value ≡ false
  unfolding item_breaks item_keys phase_keys
  phase_kept r value h =
      let table = table_in value in
      let gnd = or_parts (refused_at names (codes "gnd") table) _ h in
      let run = or_parts (refused_at names (codes "run") table) _ gnd.1 in
      let tp = or_parts (refused_at names (codes "tp") table) _ run.1 in
      let fast = or_parts (refused_at names (codes "fast") table) _ tp.1 in
      let high = or_parts (refused_at names (codes "high") table) (refused_at names (codes "low") table) fast.1 in
      rw (no_type r value)
      (of_table (λ t. table_breaks (shape_breaks names (rule_of r)) (rule_of r) phase_keys t) value
      (shapes_kept r phase_keys table (rw (
        shape_at r (get_member (codes "gnd") table) gnd.0,
        shape_at r (get_member (codes "run") table) run.0,
        shape_at r (get_member (codes "tp") table) tp.0,
        shape_at r (get_member (codes "fast") table) fast.0,
        shape_at r (get_member (codes "high") table) high.0,
        shape_at r (get_member (codes "low") table) high.1,
      ) refl)))
