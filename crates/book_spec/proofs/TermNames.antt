-- What a name in a condition's text stands for.
use Rattle.std.proofs.Common.{◌≡◌, ℕ, ◌<◌, Bool, true, false, List, [], ◌∷◌, map, length, get_or, slice_get, Option, Some, None, refl, ap, subst, ◌∙◌, inl, inr}
use Rattle.std.specs.Prelude.{is_some, unwrap_or, option_map, nat_le}
use Rattle.std.specs.Option.{option_or, option_and_then}
use Rattle.std.specs.Str.{bytes_eq}
use Rattle.std.specs.List.{position_from, All}
use Rattle.std.proofs.lemmas.Iterator.Adapters.{position_from-zero}
use Rattle.std.proofs.lemmas.List.Quantifiers.{position-Some}
use Rattle.std.proofs.lemmas.List.Elements.{All-map}
use Rattle.std.proofs.lemmas.Option.{slice_get_cases}
use Rattle.ecam_spec.specs.declared.terms.Span.{Span}
use Rattle.ecam_spec.specs.Book.{Text, Tree, NamedTerm, constant, discrete}
use Rattle.ecam_spec.specs.Token.{bytes_of}
use Rattle.ecam_spec.specs.TermText.{TermNames, Flaw, unknown_name, name_place, name_flaw, tree_named, tree_of_name}

-- ---- places of names

place_there : (short : Bool) (names : List Text) (name : Text)
    → is_some (elim short as (λ c. Option ℕ) [ true ↦ position_from (bytes_eq name) 0 names | false ↦ None ]) ≡ true
    → unwrap_or (elim short as (λ c. Option ℕ) [ true ↦ position_from (bytes_eq name) 0 names | false ↦ None ]) 0 < length names
place_there true names name h =
    elim (position_from (bytes_eq name) 0 names) as (λ o. position_from (bytes_eq name) 0 names ≡ o → is_some o ≡ true → unwrap_or o 0 < length names) [
      | None ↦ λ e k. absurd (cc)
      | Some i ↦ λ e k. (position-Some (bytes_eq name) names i [] (position_from-zero (bytes_eq name) names ∙ e)).0
    ] refl h
place_there false names name h = absurd (cc)

-- a test that adds no flaw is passed
pub passes : (b : Bool) (f : Flaw) → elim b as (λ c. List Flaw) [ true ↦ [] | false ↦ f ∷ [] ] ≡ [] → b ≡ true
passes true f h = refl
passes false f h = absurd (cc)

-- the tree that a place has among named conditions, if it has one
tree_so : (P : Tree → Type 0) (terms : List NamedTerm) (default : Tree) → P default → All (λ t. P t.tree) terms → (place : Option ℕ)
    → P (unwrap_or (option_and_then (slice_get (map (λ (t : NamedTerm). t.tree) terms)) place) default)
tree_so P terms default here known None = here
tree_so P terms default here known (Some i) =
    let trees = map (λ (t : NamedTerm). t.tree) terms in
    elim ((slice_get_cases trees i).1) [
      | inl (t, within, found, same) ↦ rw found (subst P same (All-map P (λ (t : NamedTerm). t.tree) terms known i t within))
      | inr (beyond, none) ↦ rw none here
    ]

module _ (names : TermNames) (text : Text) where
  pub name_within : (list : List Text) (n : Span) → name_flaw names text list n ≡ [] → unwrap_or (name_place list (bytes_of text n)) 0 < length list
  unfolding name_flaw name_place
  name_within list n h =
      place_there (nat_le (length (bytes_of text n)) 24) list (bytes_of text n) (passes _ (unknown_name n.at) h)

  place_below : (list : List Text) (name : Text) (i : ℕ) → name_place list name ≡ Some i → i < length list
  unfolding name_place
  place_below list name i e =
      let below = place_there (nat_le (length name) 24) list name (ap is_some e) in
      subst (λ o. unwrap_or o 0 < length list) e below

  parameter_so : (P : Tree → Type 0) (place : Option ℕ) (other : Option Tree) → ((i : ℕ) → place ≡ Some i → P (discrete i)) → P (unwrap_or other (constant false))
      → P (unwrap_or (option_or (option_map (λ p. discrete p) place) other) (constant false))
  parameter_so P None other first last = last
  parameter_so P (Some i) other first last = first i refl

  -- what is so of each parameter's condition, of each named one and of `false` is so of the one that a name stands for
  pub named_so : (P : Tree → Type 0) (n : Span) → P (constant false) → ((p : ℕ) → p < length names.parameters → P (discrete p)) → All (λ t. P t.tree) names.terms
      → P (unwrap_or (tree_of_name names text n) (constant false))
  unfolding tree_of_name tree_named
  named_so P n default parameter known =
      let name = bytes_of text n in
      parameter_so P (name_place names.parameters name) (tree_named names.terms name) (λ i e. parameter i (place_below names.parameters name i e))
      (tree_so P names.terms (constant false) default known (name_place (map (λ (t : NamedTerm). t.name) names.terms) name))
