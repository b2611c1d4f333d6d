-- Numbers in a row, from 0, as the places of a list: the least that passes a test, and what stands first in a list.
use Rattle.std.specs.Prelude.{ℕ, zero, suc, Bool, true, false, List, [], ◌∷◌, ◌++◌, Option, Some, None}
use Rattle.std.specs.Option.{option_or}

-- the numbers below n, rising
unfoldable pub below : ℕ → List ℕ
below zero = []
below (suc n) = below n ++ n ∷ []

-- the least number below n that passes
unfoldable pub first_place : (ℕ → Bool) → ℕ → Option ℕ
first_place p zero = None
first_place p (suc n) = option_or (first_place p n) (elim (p n) [ true ↦ Some n | false ↦ None ])

-- the first of a list
abbrev pub first_in : {X : Type 0} → List X → Option X
first_in [] = None
first_in (x ∷ xs) = Some x

-- the first that is there
abbrev pub first_of : {X : Type 0} → List (Option X) → Option X
first_of [] = None
first_of (x ∷ xs) = option_or x (first_of xs)
