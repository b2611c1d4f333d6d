-- The first place that passes a test, as a loop comes to it.
use Rattle.std.proofs.Common.{◌≡◌, ℕ, ◌+◌, ◌<◌, ◌≤◌, Bool, true, false, List, ◌∷◌, map, length, drop, get_or, Option, Some, None, refl, ap}
use Rattle.std.specs.List.{position_from}
use Rattle.std.proofs.lemmas.List.{drop_more, drop_all}

module _ {X Y : Type 0} (seen : X → Y) (test : Y → Bool) (xs : List X) (i : ℕ) where
  -- the first from a place on
  abbrev pub place_after : Option ℕ
  place_after = position_from test i (map seen (drop i xs))

module _ {X Y : Type 0} (seen : X → Y) (test : Y → Bool) (xs : List X) (i : ℕ) where
  items_from : (d : X) → i < length xs → map seen (drop i xs) ≡ seen (get_or xs i d) ∷ map seen (drop (i + 1) xs)
  items_from d within = ap (map seen) (drop_more xs i d within)

  pub place_here : (d : X) → i < length xs → test (seen (get_or xs i d)) ≡ true → place_after seen test xs i ≡ Some i
  place_here d within so = rw (items_from d within, so) refl

  pub place_later : (d : X) → i < length xs → test (seen (get_or xs i d)) ≡ false → place_after seen test xs i ≡ place_after seen test xs (i + 1)
  place_later d within other = rw (items_from d within, other) refl

  pub place_nowhere : length xs ≤ i → place_after seen test xs i ≡ None
  place_nowhere past = rw (drop_all i xs past) refl
