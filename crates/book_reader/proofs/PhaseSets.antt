-- The set of the phases among some values, as a loop goes through them.
use Rattle.std.proofs.Common.{◌≡◌, ℕ, ◌+◌, ◌<◌, bit_or, List, [], ◌∷◌, ◌++◌, append-nil, map, length, take, get_or, Some, None, ap, sym, ◌∙◌}
use Rattle.std.proofs.lemmas.List.{take_more, map-append}
use Rattle.std.proofs.lemmas.List.Sums.{fold-append}
use Rattle.std.proofs.lemmas.List.Elements.{filter_map-append}
use Rattle.std.specs.List.{fold, filter_map}
use Rattle.toml.specs.Data.{Data}
use Rattle.toml.specs.View.{view}
use Rattle.toml.specs.declared.value.Value.{Value}
use Rattle.ecam_spec.specs.TermNumber.{one_phase}
use Rattle.book_spec.specs.Defaults.{phase_from}
use Rattle.book_reader.specs.Drafting.{set_of}

one_some : (ds : List Data) (d : Data) (p : ℕ) → phase_from d ≡ Some p → set_of (ds ++ d ∷ []) ≡ bit_or (set_of ds) (one_phase p)
one_some ds d p is =
    ap (fold (λ set q. bit_or set (one_phase q)) 0) (filter_map-append phase_from ds (d ∷ []))
    ∙ rw is (fold-append (λ set q. bit_or set (one_phase q)) 0 (filter_map phase_from ds) (p ∷ []))

one_none : (ds : List Data) (d : Data) → phase_from d ≡ None → set_of (ds ++ d ∷ []) ≡ set_of ds
one_none ds d is =
    let same : filter_map phase_from ds ++ filter_map phase_from (d ∷ []) ≡ filter_map phase_from ds = rw is (append-nil (filter_map phase_from ds)) in
    ap (fold (λ set q. bit_or set (one_phase q)) 0) (filter_map-append phase_from ds (d ∷ []) ∙ same)

module _ (vs : List Value) (i : ℕ) (v : Value) (within : i < length vs) (here : v ≡ get_or vs i v) where
  -- the values so far and the one at a place
  pub views_more : map view (take (i + 1) vs) ≡ map view (take i vs) ++ view v ∷ []
  views_more = ap (map view) (take_more vs i v within ∙ ap (λ w. take i vs ++ w ∷ []) (sym here)) ∙ map-append view (take i vs) (v ∷ [])

  pub phase_more : (p : ℕ) → phase_from (view v) ≡ Some p → set_of (map view (take (i + 1) vs)) ≡ bit_or (set_of (map view (take i vs))) (one_phase p)
  phase_more p is = ap set_of views_more ∙ one_some (map view (take i vs)) (view v) p is

  pub phase_same : phase_from (view v) ≡ None → set_of (map view (take (i + 1) vs)) ≡ set_of (map view (take i vs))
  phase_same is = ap set_of views_more ∙ one_none (map view (take i vs)) (view v) is
