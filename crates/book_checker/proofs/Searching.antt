-- The first item of a list that is so, as a loop goes through the list.
use Rattle.std.proofs.Common.{◌≡◌, ℕ, suc, ◌+◌, ◌<◌, ◌≤◌, Bool, true, false, List, ◌∷◌, length, map, get_or, drop, Option, Some, None, refl, sym, ◌∙◌, ap, arith}
use Rattle.std.proofs.lemmas.List.{drop_more, drop_all}
use Rattle.ecam_spec.specs.Faults.{first_from}

module _ {X Y : Type 0} (view : X → Y) (is_so : ℕ → Y → Bool) (xs : List X) (i : ℕ) where
  -- the first from a place on
  abbrev pub from_place : Option ℕ
  from_place = first_from i is_so (map view (drop i xs))

  pub first_nowhere : length xs ≤ i → from_place ≡ None
  first_nowhere after = rw (drop_all i xs after) refl

  asked_here : (x : X) → i < length xs → x ≡ get_or xs i x → (b : Bool) → is_so i (view x) ≡ b
      → from_place ≡ elim b [ true ↦ Some (suc i) | false ↦ first_from (suc i) is_so (map view (drop (i + 1) xs)) ]
  asked_here x within is b asked =
      ap (λ ys. first_from i is_so (map view ys)) (drop_more xs i x within)
      ∙ ap (λ y. first_from i is_so (view y ∷ map view (drop (i + 1) xs))) (sym is)
      ∙ ap (λ t. elim t [ true ↦ Some (suc i) | false ↦ first_from (suc i) is_so (map view (drop (i + 1) xs)) ]) asked

module _ {X Y : Type 0} (view : X → Y) (is_so : ℕ → Y → Bool) (xs : List X) (i : ℕ) where
  pub first_here : (x : X) → i < length xs → x ≡ get_or xs i x → is_so i (view x) ≡ true → from_place view is_so xs i ≡ Some (suc i)
  first_here x within is so = asked_here view is_so xs i x within is true so

  pub first_later : (x : X) → i < length xs → x ≡ get_or xs i x → is_so i (view x) ≡ false
      → from_place view is_so xs i ≡ from_place view is_so xs (i + 1)
  first_later x within is other =
      asked_here view is_so xs i x within is false other
      ∙ ap (λ n. first_from n is_so (map view (drop (i + 1) xs))) (omega arith)
