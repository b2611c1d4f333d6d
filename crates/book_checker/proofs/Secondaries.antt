-- What is asked of an alert's secondaries, by the map of places.
use Rattle.std.proofs.Common.{◌≡◌, ℕ, ◌+◌, Bool, ◌||◌, not, List, [], ◌∷◌, map, inl, inr, refl, ap, ◌∙◌}
use Rattle.std.proofs.lemmas.Bool.{cases_Bool}
use Rattle.std.specs.Prelude.{is_none}
use Rattle.std.specs.List.{list_any, position_from}
use Rattle.ecam_spec.specs.Book.{Text}
use Rattle.ecam_spec.specs.Bytes.{same_text}
use Rattle.ecam_spec.specs.DraftFaults.{is_unknown, stands_early, is_at_most}
use Rattle.book_model.specs.NamePlaces.{Numbers, number_by, FindsPlaces}

-- what is asked of each text that is seen, asked of the texts
seen : {X : Type 0} (is_so : X → Bool) (asked : Text → Bool) (view : X → Text) → ((x : X) → is_so x ≡ asked (view x))
    → (xs : List X) → list_any is_so xs ≡ list_any asked (map view xs)
seen is_so asked view same [] = refl
seen is_so asked view same (x ∷ xs) =
    ap (λ b. b || list_any is_so xs) (same x) ∙ ap (λ b. asked (view x) || b) (seen is_so asked view same xs)

-- there is no place exactly where none is so
no_place : {X : Type 0} (is_so : X → Bool) (n : ℕ) (xs : List X) → is_none (position_from is_so n xs) ≡ not (list_any is_so xs)
no_place is_so n [] = refl
no_place is_so n (x ∷ xs) = elim (cases_Bool (is_so x)) [ inl here ↦ rw here refl | inr other ↦ rw other (no_place is_so (n + 1) xs) ]

module _ (names : List Text) {S : Type 0} (m : Numbers S) (finds : FindsPlaces names m) {X : Type 0} (view : X → Text) (xs : List X) where
  pub unknown_by : list_any (λ x. is_none (number_by m (view x))) xs ≡ list_any (is_unknown names) (map view xs)
  unknown_by =
      seen (λ x. is_none (number_by m (view x))) (is_unknown names) view
      (λ x. ap is_none (finds (view x)) ∙ no_place (same_text (view x)) 0 names) xs

  pub early_by : (i : ℕ) → list_any (λ x. is_at_most i (number_by m (view x))) xs ≡ list_any (stands_early names i) (map view xs)
  early_by i =
      seen (λ x. is_at_most i (number_by m (view x))) (stands_early names i) view (λ x. ap (is_at_most i) (finds (view x))) xs
