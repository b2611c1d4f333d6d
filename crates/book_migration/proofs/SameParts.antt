-- A document of version 2 has the names and the draft that it had.
use Rattle.std.proofs.Common.{◌≡◌, ℕ, List, [], ◌∷◌, ◌++◌, map, take, Some, None, refl, ap, ◌∙◌, false}
use Rattle.std.specs.Prelude.{codes, fold}
use Rattle.toml.specs.Data.{Data, Members, same_key}
use Rattle.ecam_spec.specs.Book.{Text, NamedTerm}
use Rattle.book_spec.specs.Rules.{Names, members_of, list_in}
use Rattle.book_spec.specs.Defaults.{named_in}
use Rattle.book_spec.specs.Document.{text_of, name_of, names_with, and_next, named_among, named_terms, names_of, names_at}
use Rattle.book_spec.specs.DraftOf.{draft_of}
use Rattle.book_spec.specs.declared.schema.Item.TheVariants as items
use Rattle.book_migration.specs.Migrated.{in_version_2}
use Rattle.book_migration.proofs.Versions.{same_at}

-- the names that the items of these sections have
abbrev of_sections : List Data → List Data → List Data → List Data → List NamedTerm → Names
of_sections systems pages parameters alerts terms = record {
  systems = map text_of systems;
  pages = map name_of pages;
  of_terms = record { parameters = map name_of parameters; alerts = map name_of alerts; terms = terms };
}

module _ (top : Members) where
  abbrev second : Members
  second = in_version_2 top

  list_same : (key : Text) → same_key key (codes "version") ≡ false → list_in key second ≡ list_in key top
  unfolding list_in
  list_same key other = ap (λ o. elim o as (λ x. List Data) [ None ↦ [] | Some value ↦ members_of value ]) (same_at top key other)

  pub systems_same : list_in (codes "systems") second ≡ list_in (codes "systems") top
  systems_same = list_same (codes "systems") refl

  pub pages_same : list_in (codes "page") second ≡ list_in (codes "page") top
  pages_same = list_same (codes "page") refl

  pub parameters_same : list_in (codes "param") second ≡ list_in (codes "param") top
  parameters_same = list_same (codes "param") refl

  pub terms_same : list_in (codes "term") second ≡ list_in (codes "term") top
  terms_same = list_same (codes "term") refl

  pub alerts_same : list_in (codes "alert") second ≡ list_in (codes "alert") top
  alerts_same = list_same (codes "alert") refl

  pub memos_same : list_in (codes "memo") second ≡ list_in (codes "memo") top
  memos_same = list_same (codes "memo") refl

  -- the names beside the named conditions
  pub names_same : names_with second ≡ names_with top
  names_same =
      let pages = list_in (codes "page") in
      let parameters = list_in (codes "param") in
      let alerts = list_in (codes "alert") in
      ap (λ s. of_sections s (pages second) (parameters second) (alerts second)) systems_same
      ∙ ap (λ p. of_sections (list_in (codes "systems") top) p (parameters second) (alerts second)) pages_same
      ∙ ap (λ p. of_sections (list_in (codes "systems") top) (pages top) p (alerts second)) parameters_same
      ∙ ap (λ a. of_sections (list_in (codes "systems") top) (pages top) (parameters top) a) alerts_same

  more_same : (known : List NamedTerm) (values : List Data) → fold (and_next second) known values ≡ fold (and_next top) known values
  more_same known [] = refl
  more_same known (v ∷ vs) =
      ap (λ (f : List NamedTerm → Names). fold (and_next second) (known ++ named_in (f known) v ∷ []) vs) names_same ∙ more_same (and_next top known v) vs

  pub named_same : named_terms second ≡ named_terms top
  unfolding named_among
  named_same = ap (fold (and_next second) []) terms_same ∙ more_same [] (list_in (codes "term") top)

  pub all_same : names_of second ≡ names_of top
  unfolding names_of
  all_same = ap (λ (f : List NamedTerm → Names). f (named_terms second)) names_same ∙ ap (names_with top) named_same

  pub before_same : names_at second items.Term ≡ names_at top items.Term
  before_same =
      let among : (List NamedTerm → Names) → ℕ → Names = λ known i. known (take i (named_terms second)) in
      let of_first : List NamedTerm → ℕ → Names = λ terms i. names_with top (take i terms) in
      ap among names_same ∙ ap of_first named_same

  pub draft_same : draft_of second ≡ draft_of top
  unfolding draft_of
  draft_same = rw (all_same, systems_same, pages_same, parameters_same, alerts_same, memos_same, named_same, same_at top (codes "phase") refl) refl
