-- The condition that is found along a list of named ones is the one that has the name.
use Rattle.std.proofs.Common.{◌≡◌, ℕ, suc, ◌+◌, ◌<◌, ◌≤◌, true, false, cond, leb, List, [], ◌∷◌, map, length, slice_get, Option, Some, None, refl, sym, ap, ◌∙◌, arith, inl, inr, add-zero, zero-add}
use Rattle.std.specs.Prelude.{option_map, option_and_then}
use Rattle.std.specs.List.{position_from}
use Rattle.std.proofs.lemmas.Bool.{cases_Bool, le-leb, lt-leb}
use Rattle.ecam_spec.specs.Book.{Text, Tree}
use Rattle.ecam_spec.specs.Bytes.{same_text}
use Rattle.ecam_spec.specs.TermText.{name_place, tree_named}
use Rattle.term_tree.specs.declared.named_term.NamedTerm.{NamedTerm}
use Rattle.term_tree.specs.View.{tree_of, named_terms}
use Rattle.term_text.specs.Known.{first_named}

abbrev names_in : List NamedTerm → List Text
names_in terms = map (λ t. t.name) (named_terms terms)

abbrev trees_in : List NamedTerm → List Tree
trees_in terms = map (λ t. t.tree) (named_terms terms)

-- by the trees of a longer list, from a place on
found_from : (name : Text) (all : List Tree) (k : ℕ) (terms : List NamedTerm) → ((i : ℕ) → slice_get all (k + i) ≡ slice_get (trees_in terms) i)
    → option_and_then (slice_get all) (position_from (same_text name) k (names_in terms)) ≡ option_map tree_of (first_named terms name)
found_from name all k [] same = refl
found_from name all k (t ∷ terms) same =
    let later : (i : ℕ) → slice_get all (k + 1 + i) ≡ slice_get (trees_in terms) i = λ i. let e : k + 1 + i ≡ k + suc i = omega arith in ap (slice_get all) e ∙ same (suc i) in
    elim (cases_Bool (same_text name t.name.bytes)) [
      | inl here ↦ rw here (ap (slice_get all) (sym (add-zero k)) ∙ same 0)
      | inr other ↦ rw other (found_from name all (k + 1) terms later)
    ]

module _ (terms : List NamedTerm) (name : Text) where
  pub named_tree_found : length name ≤ 24 → tree_named (named_terms terms) name ≡ option_map tree_of (first_named terms name)
  unfolding tree_named name_place
  named_tree_found short =
      ap (λ (b : _). option_and_then (slice_get (trees_in terms)) (elim b as (λ v. Option ℕ) [ true ↦ position_from (same_text name) 0 (names_in terms) | false ↦ None ])) (le-leb (length name) 24 short)
      ∙ found_from name (trees_in terms) 0 terms (λ i. ap (slice_get (trees_in terms)) (zero-add i))

  pub long_name_unknown : 24 < length name → tree_named (named_terms terms) name ≡ None
  unfolding tree_named name_place
  long_name_unknown long =
      ap (λ (b : _). option_and_then (slice_get (trees_in terms)) (elim b as (λ v. Option ℕ) [ true ↦ position_from (same_text name) 0 (names_in terms) | false ↦ None ])) (lt-leb (length name) 24 long)
