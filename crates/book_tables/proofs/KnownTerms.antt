-- The named conditions that are known: their names are the first of the document's, and each is found by its place.
use Rattle.std.proofs.Common.{◌≡◌, ℕ, zero, suc, ◌+◌, ◌≤◌, Bool, ◌<◌, List, [], ◌∷◌, ◌++◌, map, length, take, get_or, Option, Some, None, ◌⊎◌, inl, inr, option_map, refl, ap, sym, ◌∙◌, arith, length-take}
use Rattle.std.specs.Prelude.{codes, nat_le, slice_get}
use Rattle.std.specs.Option.{option_and_then}
use Rattle.std.specs.List.{position_from}
use Rattle.std.proofs.Math.Seq.{take-length}
use Rattle.std.proofs.lemmas.Bool.{cases_Bool}
use Rattle.std.proofs.lemmas.List.{length-map, take-map, take_min, take_more, map-append}
use Rattle.std.proofs.lemmas.Option.{slice_get-map, slice_get_past}
use Rattle.toml.specs.Data.{Members}
use Rattle.toml.specs.View.{view}
use Rattle.toml.specs.declared.value.Value.{Value}
use Rattle.ecam_spec.specs.Book.{Text, Tree, NamedTerm}
use Rattle.ecam_spec.specs.Bytes.{same_text, place_of}
use Rattle.ecam_spec.specs.TermText.{name_place, tree_named}
use Rattle.term_tree.specs.View.{tree_of, named_term, named_terms}
use Rattle.term_tree.specs.declared.named_term.NamedTerm.{NamedTerm as Held}
use Rattle.book_spec.specs.Rules.{list_in}
use Rattle.book_spec.specs.Document.{term_names, names_with, and_next, named_among}
use Rattle.book_spec.specs.Defaults.{named_in}
use Rattle.book_spec.specs.Document as document
use Rattle.book_tables.specs.Reading.{views}
use Rattle.book_spec.proofs.NamedTerms.{name_at, named_names, named_count, named_next}

twice : {A B C : Type 0} (f : B → C) (g : A → B) (o : Option A) → option_map f (option_map g o) ≡ option_map (λ x. f (g x)) o
twice f g None = refl
twice f g (Some x) = refl

tree_at : (terms : List Held) (k : ℕ) → slice_get (map (λ (t : NamedTerm). t.tree) (named_terms terms)) k ≡ option_map (λ (t : Held). tree_of t.cond) (slice_get terms k)
tree_at terms k =
    slice_get-map (λ (t : NamedTerm). t.tree) (named_terms terms) k
    ∙ ap (option_map (λ (t : NamedTerm). t.tree)) (slice_get-map named_term terms k)
    ∙ twice (λ (t : NamedTerm). t.tree) named_term (slice_get terms k)

-- the condition at a place, and its tree
pub tree_found : (terms : List Held) (place : Option ℕ)
    → option_map tree_of (option_and_then (λ p. option_map (λ (t : Held). t.cond) (slice_get terms p)) place)
    ≡ option_and_then (slice_get (map (λ (t : NamedTerm). t.tree) (named_terms terms))) place
tree_found terms None = refl
tree_found terms (Some p) = twice tree_of (λ (t : Held). t.cond) (slice_get terms p) ∙ sym (tree_at terms p)

-- ---- names among the first of some names

place_from : (t : Text → Bool) (n : ℕ) (xs : List Text) (i : ℕ) → position_from t n xs ≡ Some i → n ≤ i
place_from t n [] i h = absurd (cc)
place_from t n (x ∷ xs) i h =
    elim (cases_Bool (t x)) [
      | inl here ↦ let found : Some n ≡ Some i = rw here at h in let same : n ≡ i = cc in omega (arith, same)
      | inr other ↦ let later : position_from t (n + 1) xs ≡ Some i = rw other at h in omega (arith, place_from t (n + 1) xs i later)
    ]

-- a name has its place among the first, or has none there and stands behind them
first_place : (t : Text → Bool) (n k : ℕ) (xs : List Text)
    → (position_from t n (take k xs) ≡ position_from t n xs) ⊎ ((position_from t n (take k xs) ≡ None) × ((i : ℕ) → position_from t n xs ≡ Some i → n + k ≤ i))
first_place t n zero xs = inr (refl, λ i h. omega (arith, place_from t n xs i h))
first_place t n (suc k) [] = inl refl
first_place t n (suc k) (x ∷ xs) =
    elim (cases_Bool (t x)) [
      | inl here ↦ rw here (inl refl)
      | inr other ↦ rw other (elim (first_place t (n + 1) k xs) [
        | inl same ↦ inl same
        | inr (none, behind) ↦ inr (none, λ i h. omega (arith, behind i h))
      ])
    ]

none_behind : (trees : List Tree) (o : Option ℕ) → ((i : ℕ) → o ≡ Some i → length trees ≤ i) → None ≡ option_and_then (slice_get trees) o
none_behind trees None behind = refl
none_behind trees (Some i) behind = sym (slice_get_past trees i (behind i refl))

first_found : (trees : List Tree) (names : List Text) (k : ℕ) (name : Text) → length trees ≤ k
    → option_and_then (slice_get trees) (place_of (take k names) name) ≡ option_and_then (slice_get trees) (place_of names name)
first_found trees names k name few =
    elim (first_place (same_text name) 0 k names) [
      | inl same ↦ ap (option_and_then (slice_get trees)) same
      | inr (none, behind) ↦ rw none (none_behind trees (place_of names name) (λ i h. omega (arith, behind i h)))
    ]

short_found : (trees : List Tree) (names : List Text) (k : ℕ) (name : Text) → length trees ≤ k
    → option_and_then (slice_get trees) (name_place (take k names) name) ≡ option_and_then (slice_get trees) (name_place names name)
unfolding name_place
short_found trees names k name few =
    elim (cases_Bool (nat_le (length name) 24)) [
      | inl short ↦ rw (short, name_place) (first_found trees names k name few)
      | inr long ↦ rw (long, name_place) refl
    ]

-- ---- the named conditions of a document

module _ (top : Members) (terms : List Held) where
  abbrev FirstNames : Type 0
  FirstNames = map (λ (t : NamedTerm). t.name) (named_terms terms) ≡ take (length terms) (term_names top)

  -- the condition of a name is that of its place
  pub known_found : FirstNames → (name : Text) → tree_named (named_terms terms) name ≡ option_and_then (slice_get (map (λ (t : NamedTerm). t.tree) (named_terms terms))) (name_place (term_names top) name)
  unfolding tree_named
  known_found first name =
      let trees = map (λ (t : NamedTerm). t.tree) (named_terms terms) in
      let few : length trees ≤ length terms = omega (arith, length-map (named_terms terms) (λ (t : NamedTerm). t.tree), length-map terms named_term) in
      rw first (short_found trees (term_names top) (length terms) name few)

  -- those of the first items have the first names
  pub first_names : (i : ℕ) → named_terms terms ≡ named_among top (take i (list_in (codes "term") top)) → FirstNames
  first_names i known =
      let values = list_in (codes "term") top in
      let first = take i values in
      let count : length terms ≡ length first = sym (length-map terms named_term) ∙ ap length known ∙ named_count top first in
      let few : take (length first) values ≡ first = ap (λ n. take n values) (length-take i values) ∙ take_min i values in
      ap (map (λ (t : NamedTerm). t.name)) known ∙ named_names top first
      ∙ sym (ap (λ n. take n (term_names top)) count ∙ take-map (name_at top) (length first) values ∙ ap (map (name_at top)) few)

  pub all_names : named_terms terms ≡ document.named_terms top → FirstNames
  all_names known = first_names (length (list_in (codes "term") top)) (known ∙ ap (named_among top) (sym (take-length (list_in (codes "term") top))))

-- one more condition is read where those before it are known
pub next_named : (top : Members) (terms : List Held) (term : Held) (items : List Value) (i : ℕ) (d : Value) → i < length items
    → named_terms terms ≡ named_among top (views (take i items)) → named_term term ≡ named_in (names_with top (named_terms terms)) (view (get_or items i d))
    → named_terms (terms ++ term ∷ []) ≡ named_among top (views (take (i + 1) items))
next_named top terms term items i d within known next =
    let value = view (get_or items i d) in
    let more : views (take (i + 1) items) ≡ views (take i items) ++ value ∷ [] = rw (take_more items i d within) (map-append view (take i items) (get_or items i d ∷ [])) in
    map-append named_term terms (term ∷ [])
    ∙ ap (λ t. named_terms terms ++ t ∷ []) next
    ∙ ap (λ ts. and_next top ts value) known
    ∙ sym (ap (named_among top) more ∙ named_next top (views (take i items)) value)
