-- The first item that is so, as a loop comes to it.
use Rattle.std.proofs.Common.{◌≡◌, ℕ, ◌+◌, ◌<◌, ◌≤◌, Bool, true, false, List, ◌∷◌, map, length, drop, get_or, Option, Some, None, refl, ap, sym, add-one}
use Rattle.std.proofs.lemmas.List.{drop_more, drop_all}
use Rattle.ecam_spec.specs.Faults.{first_from}

module _ {X Y : Type 0} (seen : X → Y) (is_so : ℕ → Y → Bool) (xs : List X) (i : ℕ) where
  -- the first from a place on
  abbrev pub first_after : Option ℕ
  first_after = first_from i is_so (map seen (drop i xs))

module _ {X Y : Type 0} (seen : X → Y) (is_so : ℕ → Y → Bool) (xs : List X) (i : ℕ) where
  items_from : (d : X) → i < length xs → map seen (drop i xs) ≡ seen (get_or xs i d) ∷ map seen (drop (i + 1) xs)
  items_from d within = ap (map seen) (drop_more xs i d within)

  pub first_here : (d : X) → i < length xs → is_so i (seen (get_or xs i d)) ≡ true → first_after seen is_so xs i ≡ Some (i + 1)
  first_here d within so = rw (items_from d within, so, first_from) (ap Some (sym (add-one i)))

  pub first_later : (d : X) → i < length xs → is_so i (seen (get_or xs i d)) ≡ false → first_after seen is_so xs i ≡ first_after seen is_so xs (i + 1)
  first_later d within other = rw (items_from d within, other, first_from) (ap (λ n. first_from n is_so (map seen (drop (i + 1) xs))) (sym (add-one i)))

  pub first_nowhere : length xs ≤ i → first_after seen is_so xs i ≡ None
  first_nowhere past = rw (drop_all i xs past) refl
