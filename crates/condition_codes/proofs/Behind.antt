-- One item more stands behind those of a list.
use Rattle.std.proofs.Common.{◌≡◌, ℕ, suc, ◌<◌, List, [], ◌∷◌, ◌++◌, length, slice_get, Some, refl, sym, ap, subst, ◌∙◌, inl, inr, arith}
use Rattle.std.proofs.lemmas.Bool.{cases_lt}
use Rattle.std.proofs.lemmas.List.{get_or_append_left, get_or_push, length-append}
use Rattle.std.proofs.lemmas.Option.{same_Some, slice_get_within, slice_get-get_or, get_or_from_slice_get}

module _ {X : Type 0} (xs : List X) (x : X) where
  abbrev all : List X
  all = xs ++ x ∷ []

  pub longer : length all ≡ suc (length xs)
  longer = length-append xs (x ∷ []) ∙ omega arith

  -- what it had it has
  pub has-old : (k : ℕ) (y : X) → slice_get xs k ≡ Some y → slice_get all k ≡ Some y
  has-old k y is =
      let less : k < length xs = slice_get_within xs k y is in
      slice_get-get_or all k y (omega (arith, longer)) ∙ ap Some (get_or_append_left xs (x ∷ []) y k less ∙ get_or_from_slice_get xs k y y is)

  pub has-new : slice_get all (length xs) ≡ Some x
  has-new = slice_get-get_or all (length xs) x (omega (arith, longer)) ∙ ap Some (get_or_push xs x x (length xs) refl)

  -- what holds of those that were there, and of the one more, holds of all
  pub each-more : (P : ℕ → X → Type 0) → ((k : ℕ) (y : X) → slice_get xs k ≡ Some y → P k y) → P (length xs) x → (k : ℕ) (y : X) → slice_get all k ≡ Some y → P k y
  each-more P old new k y is = elim (cases_lt k (length xs)) [
    | inl less ↦
        old k y (slice_get-get_or xs k y less ∙ ap Some (sym (get_or_append_left xs (x ∷ []) y k less) ∙ get_or_from_slice_get all k y y is))
    | inr after ↦
        let here : length xs ≡ k = omega (arith, slice_get_within all k y is, longer) in
        let same : x ≡ y = same_Some x y (sym has-new ∙ ap (slice_get all) here ∙ is) in
        subst (λ m. P m y) here (subst (P (length xs)) same new)
  ]
