-- The draft that a document without a fault is keeps its limits.
use Rattle.std.proofs.Common.{◌≡◌, ℕ, ◌≤◌, true, false, List, [], ◌∷◌, map, length, get_or, None, refl, sym, ap, subst, ◌∙◌, arith}
use Rattle.std.specs.Prelude.{codes, unwrap_or, if◌then◌else◌}
use Rattle.std.specs.List.{All}
use Rattle.std.proofs.lemmas.List.{length-map}
use Rattle.std.proofs.lemmas.List.Elements.{All-nil, All-cons, All-head, All-tail, All-map, All-weaker}
use Rattle.toml.specs.Data.{Data, Members, no_members, get_member, as_table}
use Rattle.ecam_spec.specs.Book.{Text, NamedTerm, Page, Parameter, Memo}
use Rattle.ecam_spec.specs.BookText.{is_name, is_text}
use Rattle.ecam_spec.specs.Draft.{DraftAlert}
use Rattle.ecam_spec.specs.KeepsLimits.{NoneRepeated, IsSoundTerm, IsSoundNamed, IsSoundPage, IsSoundParameter, IsSoundPhase, IsSoundAlert, IsSoundMemo, IsSound}
use Rattle.book_spec.specs.Fields.{◌>>=◌}
use Rattle.book_spec.specs.Rules.{list_in}
use Rattle.book_spec.specs.Document.{text_of, name_of, names_of, names_at, is_second, most_alerts, table_fault}
use Rattle.book_spec.specs.DraftOf.{page_in, parameter_in, alert_in, memo_in, system_in, draft_of}
use Rattle.book_spec.proofs.LeafFacts.{text_value}
use Rattle.book_spec.proofs.ItemSound.{SoundAlert, map_so, page_named, page_sound, parameter_named, parameter_sound, phase_sound, alert_named, alert_sound, memo_named, memo_sound, named_name, named_named}
use Rattle.book_spec.specs.Defaults.{table_in, name_or_none}
use Rattle.book_spec.specs.declared.schema.Item.TheVariants as items
use Rattle.book_spec.proofs.TermSound.{AllKnown}
use Rattle.book_spec.proofs.NamedTerms.{named_names, named_count, named_sound}
use Rattle.book_spec.proofs.FaultFree.{IsFaultless, faultless}

-- two readings of a list have equally many members, and where they agree on each, they are one
same_length : {X Y Z : Type 0} (f : X → Y) (g : X → Z) (xs : List X) → length (map f xs) ≡ length (map g xs)
same_length f g xs = length-map xs f ∙ sym (length-map xs g)

maps_agree : {X Y : Type 0} (f g : X → Y) (xs : List X) → All (λ x. f x ≡ g x) xs → map f xs ≡ map g xs
maps_agree f g [] all = refl
maps_agree f g (x ∷ xs) all =
    let here = All-head (λ x. f x ≡ g x) x xs all in
    let rest = maps_agree f g xs (All-tail (λ x. f x ≡ g x) x xs all) in
    cc

map-map : {X Y Z : Type 0} (f : Y → Z) (g : X → Y) (xs : List X) → map f (map g xs) ≡ map (λ x. f (g x)) xs
map-map f g [] = refl
map-map f g (x ∷ xs) = ap (λ ys. f (g x) ∷ ys) (map-map f g xs)

-- what is so of each image
unmapped : {X Y : Type 0} (P : Y → Type 0) (f : X → Y) (xs : List X) → All P (map f xs) → All (λ x. P (f x)) xs
unmapped P f [] all = All-nil (λ x. P (f x))
unmapped P f (x ∷ xs) all = All-cons (λ x. P (f x)) x xs (All-head P (f x) (map f xs) all) (unmapped P f xs (All-tail P (f x) (map f xs) all))

-- the names of items stand once where those of their tables do
once_read : {X : Type 0} (name : X → Text) (read : Data → X) (P : Data → Type 0) → ((d : Data) → P d → name (read d) ≡ name_of d)
    → (section : List Data) → All P section → NoneRepeated (map name_of section) → NoneRepeated (map name (map read section))
once_read name read P same section all once =
    let agree = maps_agree (λ d. name (read d)) name_of section (All-weaker P (λ d. name (read d) ≡ name_of d) same section all) in
    subst NoneRepeated (sym (map-map name read section ∙ agree)) once

moved : (P : ℕ → ℕ → Type 0) {p q r s : ℕ} → p ≡ q → r ≡ s → P p r → P q s
moved P {q = q} {r = r} e f x = subst (λ n. P q n) f (subst (λ n. P n r) e x)

-- a version of the book may have fewer alerts, and none has more
few_alerts : (top : Members) → most_alerts top ≤ 2048
few_alerts top = elim (is_second top) as (λ b. (if b then 2048 else 1024) ≤ 2048) [ true ↦ omega arith | false ↦ omega arith ]

module _ (top : Members) where
  systems_sound : IsFaultless top → All (λ s. is_text 16 s ≡ true) (map system_in (list_in (codes "systems") top))
  systems_sound h = map_so _ (λ s. is_text 16 s ≡ true) system_in (λ d k. (text_value (names_of top) 16 d k).1) (list_in (codes "systems") top) h.systems.each_kept

  systems_once : IsFaultless top → NoneRepeated (map system_in (list_in (codes "systems") top))
  systems_once h =
      let agree = maps_agree system_in text_of (list_in (codes "systems") top) (All-weaker _ (λ d. system_in d ≡ text_of d) (λ d k. (text_value (names_of top) 16 d k).0) (list_in (codes "systems") top) h.systems.each_kept) in
      subst NoneRepeated (sym agree) h.systems_once

  -- how many there are of each in the draft, and how many names
  parameters_many : length (names_of top).of_terms.parameters ≡ length (draft_of top).parameters
  unfolding draft_of names_of
  parameters_many = same_length name_of parameter_in (list_in (codes "param") top)

  alerts_many : length (names_of top).of_terms.alerts ≡ length (draft_of top).alerts
  unfolding draft_of names_of
  alerts_many = same_length name_of (alert_in (names_of top)) (list_in (codes "alert") top)

  pages_many : length (names_of top).pages ≡ length (draft_of top).pages
  unfolding draft_of names_of
  pages_many = same_length name_of (page_in (names_of top)) (list_in (codes "page") top)

  systems_many : length (names_of top).systems ≡ length (draft_of top).systems
  unfolding draft_of names_of
  systems_many = same_length text_of system_in (list_in (codes "systems") top)

  -- the named conditions that are known keep their limits, whatever the document has
  known_terms : AllKnown (names_of top)
  unfolding names_of
  known_terms = named_sound top (list_in (codes "term") top)

  term_names : map (λ t. t.name) (draft_of top).terms ≡ map (λ d. name_or_none (table_in d)) (list_in (codes "term") top)
  unfolding draft_of
  term_names = named_names top (list_in (codes "term") top)

  terms_sound : IsFaultless top → All (IsSoundNamed (length (draft_of top).parameters) (length (draft_of top).alerts)) (draft_of top).terms
  unfolding draft_of names_of
  terms_sound h =
      let terms = list_in (codes "term") top in
      let names = All-map (λ n. is_name n ≡ true) (λ d. name_or_none (table_in d)) terms (λ k d within. named_name (names_at top items.Term k) (get_or terms k d) (h.terms.each_kept k d within)) in
      let named = unmapped (λ n. is_name n ≡ true) (λ (t : NamedTerm). t.name) (draft_of top).terms (subst (All (λ n. is_name n ≡ true)) (sym term_names) names) in
      let sound = moved (λ p a. All (λ (t : NamedTerm). IsSoundTerm p a t.tree) (draft_of top).terms) parameters_many alerts_many known_terms in
      λ k d within. record { name = named k d within; tree = sound k d within }

  terms_once : IsFaultless top → NoneRepeated (map (λ t. t.name) (draft_of top).terms)
  terms_once h =
      let terms = list_in (codes "term") top in
      let agree = maps_agree (λ d. name_or_none (table_in d)) name_of terms (λ k d within. named_named (names_at top items.Term k) (get_or terms k d) (h.terms.each_kept k d within)) in
      subst NoneRepeated (sym (term_names ∙ agree)) h.terms_once

  pages_sound : IsFaultless top → All (IsSoundPage (length (draft_of top).parameters)) (draft_of top).pages
  unfolding draft_of
  pages_sound h =
      let names = names_of top in
      let sound = map_so _ (IsSoundPage (length names.of_terms.parameters)) (page_in names) (page_sound names) (list_in (codes "page") top) h.pages.each_kept in
      subst (λ n. All (IsSoundPage n) (draft_of top).pages) parameters_many sound

  phase_kept : IsSoundPhase (length (draft_of top).parameters) (length (draft_of top).alerts) (draft_of top).phase
  unfolding draft_of
  phase_kept =
      moved (λ p a. IsSoundPhase p a (draft_of top).phase) parameters_many alerts_many
      (phase_sound (names_of top) known_terms (unwrap_or (get_member (codes "phase") top >>= as_table) no_members))

  alerts_sound : IsFaultless top → All (IsSoundAlert (length (draft_of top).parameters) (length (draft_of top).alerts) (length (draft_of top).systems) (length (draft_of top).pages)) (draft_of top).alerts
  unfolding draft_of
  alerts_sound h =
      let names = names_of top in
      let sound = map_so _ (SoundAlert names) (alert_in names) (alert_sound names known_terms) (list_in (codes "alert") top) h.alerts.each_kept in
      let of_sizes = λ (p a s g : ℕ). All (IsSoundAlert p a s g) (draft_of top).alerts in
      moved (λ p a. of_sizes p a (length (draft_of top).systems) (length (draft_of top).pages)) parameters_many alerts_many
      (moved (λ s g. of_sizes (length names.of_terms.parameters) (length names.of_terms.alerts) s g) systems_many pages_many sound)

  memos_sound : IsFaultless top → All (IsSoundMemo (length (draft_of top).parameters) (length (draft_of top).alerts)) (draft_of top).memos
  unfolding draft_of
  memos_sound h =
      let names = names_of top in
      let sound = map_so _ (IsSoundMemo (length names.of_terms.parameters) (length names.of_terms.alerts)) (memo_in names) (memo_sound names known_terms) (list_in (codes "memo") top) h.memos.each_kept in
      moved (λ p a. All (IsSoundMemo p a) (draft_of top).memos) parameters_many alerts_many sound

  -- a document without a fault is a sound draft
  pub document_sound : table_fault top ≡ None → IsSound (draft_of top)
  unfolding draft_of
  document_sound told =
      let h = faultless top told in
      let names = names_of top in
      record {
        system_count = omega (arith, h.systems.count, length-map (list_in (codes "systems") top) system_in);
        systems = systems_sound h;
        systems_once = systems_once h;
        page_count = omega (arith, h.pages.count, length-map (list_in (codes "page") top) (page_in names));
        pages = pages_sound h;
        pages_once = once_read (λ (p : Page). p.name) (page_in names) _ (page_named names) (list_in (codes "page") top) h.pages.each_kept h.pages_once;
        parameter_count = omega (arith, h.parameters.count, length-map (list_in (codes "param") top) parameter_in);
        parameters = map_so _ IsSoundParameter parameter_in (parameter_sound names) (list_in (codes "param") top) h.parameters.each_kept;
        parameters_once = once_read (λ (p : Parameter). p.name) parameter_in _ (parameter_named names) (list_in (codes "param") top) h.parameters.each_kept h.parameters_once;
        term_count = omega (arith, h.terms.count, named_count top (list_in (codes "term") top));
        terms = terms_sound h;
        terms_once = terms_once h;
        phase = phase_kept;
        alert_count = omega (arith, h.alerts.count, few_alerts top, length-map (list_in (codes "alert") top) (alert_in names));
        alerts = alerts_sound h;
        alerts_once = once_read (λ (a : DraftAlert). a.name) (alert_in names) _ (alert_named names) (list_in (codes "alert") top) h.alerts.each_kept h.alerts_once;
        memo_count = omega (arith, h.memos.count, length-map (list_in (codes "memo") top) (memo_in names));
        memos = memos_sound h;
        memos_once = once_read (λ (m : Memo). m.name) (memo_in names) _ (memo_named names) (list_in (codes "memo") top) h.memos.each_kept h.memos_once;
      }
