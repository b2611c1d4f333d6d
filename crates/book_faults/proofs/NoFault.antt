-- Where a search for every rule at once finds nothing, a search for one of them finds nothing either; of conditions it is
-- enough that none is refused.
use Rattle.std.proofs.Common.{◌≡◌, ℕ, suc, ◌+◌, ◌<◌, Bool, true, false, List, [], ◌∷◌, length, get_or, Option, Some, None, is_some, refl, ap, sym, ◌∙◌, subst, arith, zero-add}
use Rattle.std.specs.Prelude.{is_none, codes, unwrap_or}
use Rattle.std.specs.Option.{option_or}
use Rattle.toml.specs.Data.{Data, Members, no_members, get_member, as_table}
use Rattle.ecam_spec.specs.declared.kinds.Section.{Section}
use Rattle.ecam_spec.specs.declared.kinds.Section.TheVariants as section
use Rattle.ecam_spec.specs.Book.{Text}
use Rattle.ecam_spec.specs.Faults.{first_from, first_item, fault_at, whole}
use Rattle.book_spec.specs.Fields.{◌>>=◌}
use Rattle.book_spec.specs.Defaults.{table_in}
use Rattle.book_spec.specs.Rules.{leaf_breaks, members_of, list_in}
use Rattle.book_spec.specs.TableRules.{list_breaks, item_breaks}
use Rattle.book_spec.specs.Document.{names_of, names_at, most_alerts, at_section, in_list, repeated_fault}
use Rattle.book_spec.specs.declared.schema.Item.TheVariants as items
use Rattle.book_spec.specs.declared.schema.Leaf.TheVariants as leaves
use Rattle.book_spec.specs.declared.schema.Rule.{Rule}
use Rattle.book_spec.proofs.KeyFacts.{none_so}
use Rattle.book_tables.specs.Meant.{meant_in, AreMeant}
use Rattle.book_faults.specs.declared.rules.Asked.{Asked}
use Rattle.book_faults.specs.declared.rules.Asked.TheVariants.{One, Every, Unread}
use Rattle.book_faults.specs.Asked.{any_asked, list_fails, place_in_list, item_fails}
use Rattle.book_faults.specs.FaultParts.{asked_fault, system_fault, items_fault, phase_fault, rule_faults, ordered_fault, before_names, after_names}
use Rattle.book_faults.specs.Readable.{refused_in_phase, refused_in_alert, refused_in_memo, AreReadable}
use Rattle.book_faults.proofs.ReadRules.{ReadRule, rule_of, no_list, named_kept, phase_kept, alert_kept, memo_kept}
use Rattle.book_faults.proofs.EveryRule.{not_one, not_any}
use Rattle.book_faults.proofs.FaultOrder.{or_none}

pub nothing : {A : Type 0} (o : Option A) → is_none o ≡ true → o ≡ None
nothing None h = refl
nothing (Some x) h = absurd (cc)

neither : {A : Type 0} (f g : Option A) → is_none (option_or f g) ≡ true → (is_none f ≡ true) × (is_none g ≡ true)
neither None g h = (refl, h)
neither (Some x) g h = absurd (cc)

-- ---- the places of a section

module _ {X : Type 0} (p q : ℕ → X → Bool) (Kept : ℕ → X → Type 0) (weaker : (i : ℕ) (x : X) → p i x ≡ false → Kept i x → q i x ≡ false) where
  no_first : (n : ℕ) (xs : List X) → is_none (first_from n p xs) ≡ true → ((k i : ℕ) → n + k ≡ i → k < length xs → (d : X) → Kept i (get_or xs k d))
      → first_from n q xs ≡ None
  no_first n [] none kept = refl
  no_first n (x ∷ xs) none kept =
      elim (p n x) as (λ b. p n x ≡ b → is_none (elim b as (λ b. Option ℕ) [ true ↦ Some (suc n) | false ↦ first_from (suc n) p xs ]) ≡ true
      → first_from n q (x ∷ xs) ≡ None) [
        | true ↦ λ e h. absurd (cc)
        | false ↦ λ e h. rw (weaker n x e (kept 0 n (omega arith) (omega arith) x), first_from)
            (no_first (suc n) xs h (λ k i is within d. kept (suc k) i (omega arith) (omega arith) d))
      ] refl none

whole_none : (b : Bool) → is_none (whole b) ≡ true → b ≡ false
whole_none true h = absurd (cc)
whole_none false h = refl

-- each of some values is so, by its place
abbrev EachKept : (ℕ → Data → Type 0) → List Data → Type 0
EachKept Kept values = (k : ℕ) → k < length values → (d : Data) → Kept k (get_or values k d)

module _ (asked : Asked) (rule : Rule) (breaks : ℕ → Rule → Data → Bool) (Kept : ℕ → Data → Type 0)
    (of_list : (most : ℕ) (value : Data) → list_fails asked 0 most value ≡ false → list_breaks rule 0 most value ≡ false)
    (of_item : (i : ℕ) (d : Data) → any_asked asked (λ r. breaks i r d) ≡ false → Kept i d → breaks i rule d ≡ false) where
  no_place : (most : ℕ) (value : Data) → is_none (place_in_list asked most breaks value) ≡ true → EachKept Kept (members_of value)
      → in_list most (λ i. breaks i rule) rule value ≡ None
  no_place most value none kept =
      let parts = neither (whole (list_fails asked 0 most value)) (first_item (λ i d. any_asked asked (λ r. breaks i r d)) (members_of value)) none in
      rw (of_list most value (whole_none _ parts.0))
      (no_first (λ i d. any_asked asked (λ r. breaks i r d)) (λ i. breaks i rule) Kept of_item 0 (members_of value) parts.1
      (λ k i is within d. subst (λ j. Kept j (get_or (members_of value) k d)) (sym (zero-add k) ∙ is) (kept k within d)))

-- every rule is asked for
no_searched_place : (breaks : ℕ → Rule → Data → Bool) (rule : Rule) (most : ℕ) (value : Data) → is_none (place_in_list Every most breaks value) ≡ true
    → in_list most (λ i. breaks i rule) rule value ≡ None
no_searched_place breaks rule most value none =
    no_place Every rule breaks (λ i d. Unit) (λ m v h. not_one (λ r. list_breaks r 0 m v) h rule) (λ i d h kept. not_one (λ r. breaks i r d) h rule) most value none
    (λ k within d. tt)

-- no condition is read, and each item is so that none of its is refused
no_drafted_place : (breaks : ℕ → Rule → Data → Bool) (Kept : ℕ → Data → Type 0) → ((i : ℕ) (r : ReadRule) (d : Data) → Kept i d → breaks i (rule_of r) d ≡ false)
    → (rule : Rule) (most : ℕ) (value : Data) → is_none (place_in_list Unread most breaks value) ≡ true → EachKept Kept (members_of value)
    → in_list most (λ i. breaks i rule) rule value ≡ None
no_drafted_place breaks Kept kept rule most value none each =
    no_place Unread rule breaks Kept (λ m v h. not_any (λ r. list_breaks r 0 m v) h (λ r. no_list r 0 m v) rule)
    (λ i d e k. not_any (λ r. breaks i r d) e (λ r. kept i r d k) rule) most value none each

-- ---- the sections

module _ (top : Members) (section_told : Section) (key : Text) (code other : ℕ) (told asked : Data → Option ℕ)
    (none : (value : Data) → get_member key top ≡ Some value → is_none (told value) ≡ true → asked value ≡ None) where
  at_value : (value : Data) (o : Option ℕ) → get_member key top ≡ Some value → told value ≡ o → is_none (fault_at code section_told o) ≡ true
      → fault_at other section_told (asked value) ≡ None
  at_value value None there is h = ap (fault_at other section_told) (none value there (ap is_none is))
  at_value value (Some n) there is h = absurd (cc)

  not_there : is_none (at_section top code section_told key told) ≡ true → at_section top other section_told key asked ≡ None
  not_there h =
      elim (get_member key top) as (λ o. get_member key top ≡ o → is_none (fault_at code section_told (o >>= told)) ≡ true → fault_at other section_told (o >>= asked) ≡ None) [
        | None ↦ λ there h. refl
        | Some value ↦ λ there h. at_value value (told value) there refl h
      ] refl h

module _ (top : Members) where
  -- the members of a section that is there
  listed : (key : Text) (value : Data) → get_member key top ≡ Some value → list_in key top ≡ members_of value
  unfolding list_in
  listed key value there = rw (there, list_in) refl

  -- a section of items of which every rule was asked for
  no_searched : (code : ℕ) (rule : Rule) (told : Section) (key : Text) (most : ℕ) (breaks : ℕ → Rule → Data → Bool)
      → is_none (at_section top 0 told key (place_in_list Every most breaks)) ≡ true → at_section top code told key (in_list most (λ i. breaks i rule) rule) ≡ None
  no_searched code rule told key most breaks none =
      not_there top told key 0 code (place_in_list Every most breaks) (in_list most (λ i. breaks i rule) rule)
      (λ value there h. no_searched_place breaks rule most value h) none

  -- one whose conditions are read elsewhere
  no_drafted : (code : ℕ) (rule : Rule) (told : Section) (key : Text) (most : ℕ) (breaks : ℕ → Rule → Data → Bool) (Kept : ℕ → Data → Type 0)
      → ((i : ℕ) (r : ReadRule) (d : Data) → Kept i d → breaks i (rule_of r) d ≡ false)
      → is_none (at_section top 0 told key (place_in_list Unread most breaks)) ≡ true → EachKept Kept (list_in key top)
      → at_section top code told key (in_list most (λ i. breaks i rule) rule) ≡ None
  no_drafted code rule told key most breaks Kept kept none each =
      not_there top told key 0 code (place_in_list Unread most breaks) (in_list most (λ i. breaks i rule) rule)
      (λ value there h. no_drafted_place breaks Kept kept rule most value h (subst (EachKept Kept) (listed key value there) each)) none

  -- the flight phase
  no_phase : (code : ℕ) (rule : Rule) → is_none (phase_fault top 0 Unread) ≡ true
      → refused_in_phase (names_of top) (unwrap_or (get_member (codes "phase") top >>= as_table) no_members) ≡ false
      → at_section top code section.Phase (codes "phase") (λ value. whole (item_breaks (names_of top) rule items.Phase value)) ≡ None
  no_phase code rule none kept =
      not_there top section.Phase (codes "phase") 0 code (λ value. whole (item_fails (names_of top) Unread items.Phase value)) (λ value. whole (item_breaks (names_of top) rule items.Phase value))
      (λ value there h.
      let readable : refused_in_phase (names_of top) (table_in value) ≡ false = subst (λ o. refused_in_phase (names_of top) (unwrap_or (o >>= as_table) no_members) ≡ false) there kept in
      ap whole (not_any (λ r. item_breaks (names_of top) r items.Phase value) (whole_none _ h) (λ r. phase_kept (names_of top) r value readable) rule)) none

  no_fault : is_none (asked_fault top 0 Every Unread) ≡ true → AreMeant top → AreReadable top → (code : ℕ) (rule : Rule) → asked_fault top code (One rule) (One rule) ≡ None
  unfolding asked_fault
  no_fault none meant readable code rule =
      let names = names_of top in
      let systems = neither (system_fault top 0 Every) _ none in
      let pages = neither (items_fault top 0 Every section.Page (codes "page") 16 items.Page) _ systems.1 in
      let parameters = neither (items_fault top 0 Every section.Param (codes "param") 1024 items.Param) _ pages.1 in
      let terms = neither (items_fault top 0 Unread section.Term (codes "term") 256 items.Term) _ parameters.1 in
      let phases = neither (phase_fault top 0 Unread) _ terms.1 in
      let alerts = neither (items_fault top 0 Unread section.Alert (codes "alert") (most_alerts top) items.Alert) _ phases.1 in
      let memos = neither (items_fault top 0 Unread section.Memo (codes "memo") 128 items.Memo) _ alerts.1 in
      rw (
        no_searched code rule section.System (codes "systems") 64 (λ i r. leaf_breaks names r (leaves.Text 16)) systems.0,
        no_searched code rule section.Page (codes "page") 16 (λ i r. item_breaks (names_at top items.Page i) r items.Page) pages.0,
        no_searched code rule section.Param (codes "param") 1024 (λ i r. item_breaks (names_at top items.Param i) r items.Param) parameters.0,
        no_drafted code rule section.Term (codes "term") 256 (λ i r. item_breaks (names_at top items.Term i) r items.Term)
            (λ i d. is_some (meant_in (names_at top items.Term i) d) ≡ true) (λ i r d h. named_kept (names_at top items.Term i) r d h) terms.0 meant,
        no_phase code rule phases.0 readable.phases,
        no_drafted code rule section.Alert (codes "alert") (most_alerts top) (λ i r. item_breaks names r items.Alert) (λ i d. refused_in_alert names d ≡ false)
            (λ i r d h. alert_kept names r d h) alerts.0 (λ k within d. none_so (refused_in_alert names) (list_in (codes "alert") top) readable.alerts k d within),
        no_drafted code rule section.Memo (codes "memo") 128 (λ i r. item_breaks names r items.Memo) (λ i d. refused_in_memo names d ≡ false)
            (λ i r d h. memo_kept names r d h) memos.0 (λ k within d. none_so (refused_in_memo names) (list_in (codes "memo") top) readable.memos k d within),
      ) refl

  no_rule_faults : ((code : ℕ) (rule : Rule) → asked_fault top code (One rule) (One rule) ≡ None) → (coded : List (ℕ × Rule)) → rule_faults top coded ≡ None
  no_rule_faults none [] = refl
  no_rule_faults none (r ∷ coded) = rw (none r.0 r.1) (no_rule_faults none coded)

  -- and then only names that stand twice are left to search
  pub names_alone : is_none (asked_fault top 0 Every Unread) ≡ true → AreMeant top → AreReadable top → ordered_fault top ≡ repeated_fault top
  names_alone none meant readable =
      rw (no_rule_faults (no_fault none meant readable) before_names, no_rule_faults (no_fault none meant readable) after_names) (or_none (repeated_fault top))
