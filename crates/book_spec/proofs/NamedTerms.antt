-- The named conditions of a document, which are read one after another: their names, which of them come from the first
-- items, and that they keep their limits.
use Rattle.std.proofs.Common.{◌≡◌, ℕ, ◌≤◌, min, true, List, [], ◌∷◌, ◌++◌, map, length, take, drop, refl, sym, ap, subst, ◌∙◌, arith, length-append, append_assoc, append-nil}
use Rattle.std.specs.Prelude.{fold, codes}
use Rattle.std.specs.List.{All}
use Rattle.std.proofs.Math.Seq.{take-length}
use Rattle.std.proofs.lemmas.List.{length-map, length-take-le, map-append, take-append-drop, take-append-le, take_min}
use Rattle.std.proofs.lemmas.List.Sums.{fold-append}
use Rattle.std.proofs.lemmas.List.Elements.{All-append, All-cons, All-nil}
use Rattle.toml.specs.Data.{Data, Members}
use Rattle.ecam_spec.specs.Book.{Text, NamedTerm}
use Rattle.ecam_spec.specs.KeepsLimits.{IsSoundTerm}
use Rattle.book_spec.specs.Defaults.{table_in, name_or_none, named_in}
use Rattle.book_spec.specs.Document.{names_with, and_next, named_among}
use Rattle.book_spec.proofs.TermSound.{Known, term_sound}

module _ (top : Members) where
  abbrev with_more : List NamedTerm → List Data → List NamedTerm
  with_more known values = fold (and_next top) known values

  abbrev pub name_at : Data → Text
  name_at value = name_or_none (table_in value)

  abbrev pub names : List NamedTerm → List Text
  names terms = map (λ (t : NamedTerm). t.name) terms

  names_more : (known : List NamedTerm) (values : List Data) → names (with_more known values) ≡ names known ++ map name_at values
  unfolding named_in
  names_more known [] = sym (append-nil (names known))
  names_more known (v ∷ vs) =
      let next = named_in (names_with top known) v in
      names_more (known ++ next ∷ []) vs
      ∙ ap (λ ns. ns ++ map name_at vs) (map-append (λ (t : NamedTerm). t.name) known (next ∷ []))
      ∙ append_assoc (names known) (name_at v ∷ []) (map name_at vs)

  -- the named conditions have the names of their items
  pub named_names : (values : List Data) → names (named_among top values) ≡ map name_at values
  unfolding named_among
  named_names values = names_more [] values

  pub named_count : (values : List Data) → length (named_among top values) ≡ length values
  named_count values =
      sym (length-map (named_among top values) (λ (t : NamedTerm). t.name)) ∙ ap length (named_names values) ∙ length-map values name_at

  front : (known : List NamedTerm) (values : List Data) (n : ℕ) → n ≤ length known → take n (with_more known values) ≡ take n known
  front known [] n h = refl
  front known (v ∷ vs) n h =
      let next = named_in (names_with top known) v in
      front (known ++ next ∷ []) vs n (omega (arith, h, length-append known (next ∷ [])))
      ∙ take-append-le n known (next ∷ []) h

  parted : (values : List Data) (i : ℕ) → named_among top values ≡ with_more (named_among top (take i values)) (drop i values)
  unfolding named_among
  parted values i = ap (fold (and_next top) []) (sym (take-append-drop i values)) ∙ fold-append (and_next top) [] (take i values) (drop i values)

  first_within : (values : List Data) (i : ℕ) → i ≤ length values → take i (named_among top values) ≡ named_among top (take i values)
  first_within values i h =
      let first = named_among top (take i values) in
      let count : length first ≡ i = named_count (take i values) ∙ length-take-le i values h in
      ap (take i) (parted values i) ∙ front first (drop i values) i (omega (arith, count)) ∙ subst (λ n. take n first ≡ first) count (take-length first)

  -- the first of them are those of the first items
  pub named_first : (values : List Data) (i : ℕ) → take i (named_among top values) ≡ named_among top (take i values)
  named_first values i =
      let terms = named_among top values in
      sym (take_min i terms) ∙ ap (λ n. take (min i n) terms) (named_count values) ∙ first_within values (min i (length values)) (omega arith) ∙ ap (named_among top) (take_min i values)

  -- one more item has one more condition
  pub named_next : (values : List Data) (value : Data) → named_among top (values ++ value ∷ []) ≡ and_next top (named_among top values) value
  unfolding named_among
  named_next values value = fold-append (and_next top) [] values (value ∷ [])

  -- the numbers of the parameters and the alerts of the document
  abbrev Sound : List NamedTerm → Type 0
  Sound terms =
      let names = (names_with top terms).of_terms in
      Known (length names.parameters) (length names.alerts) terms

  sound_more : (known : List NamedTerm) (values : List Data) → Sound known → Sound (with_more known values)
  unfolding named_in
  sound_more known [] sound = sound
  sound_more known (v ∷ vs) sound =
      let next = named_in (names_with top known) v in
      let names = (names_with top known).of_terms in
      let IsSound : NamedTerm → Type 0 = λ t. IsSoundTerm (length names.parameters) (length names.alerts) t.tree in
      let here = term_sound (names_with top known) sound true (codes "when") (table_in v) in
      sound_more (known ++ next ∷ []) vs (All-append IsSound known (next ∷ []) sound (All-cons IsSound next [] here (All-nil IsSound)))

  -- they keep their limits
  pub named_sound : (values : List Data) → Sound (named_among top values)
  unfolding named_among
  named_sound values = sound_more [] values (All-nil _)
