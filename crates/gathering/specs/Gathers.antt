-- What a sink that gathers agrees with. It isn't enough to say that a list is what the sink behind it holds and what is
-- gathered behind that: whoever lends it wants back his own sink, and to know of what was gathered how much was written. So
-- a list begins with two numbers, which ask for the one or the other, and a call that appends bytes to each of these
-- lists has done both.
use Rattle.std.specs.Prelude.{◌≡◌, ℕ, zero, suc, ◌≤◌, List, [], ◌∷◌, ◌++◌, length, take, drop}

-- these bytes end with what is gathered
pub record EndsSo (these gathered : List ℕ) : Type 0 where
  pub front : List ℕ
  pub parts : these ≡ front ++ gathered

-- the sink holds the first n of these bytes and of the others all but what is gathered
pub record HoldsSo {S : Type 0} (agrees : S → List ℕ → Type 0) (out : S) (gathered : List ℕ) (n : ℕ)
    (these : List ℕ) : Type 0 where
  pub long : n ≤ length these
  pub front : List ℕ
  pub parts : drop n these ≡ front ++ gathered
  pub holds : agrees out (take n these ++ front)

-- the first number names the sink that is written to; where the second is 0, no more is asked than what is gathered
abbrev pub Gathers : {S : Type 0} → (S → List ℕ → Type 0) → ℕ → S → List ℕ → List ℕ → Type 0
Gathers agrees name out gathered (asked ∷ zero ∷ these) = (asked ≡ name) × EndsSo these gathered
Gathers agrees name out gathered (asked ∷ suc n ∷ these) = HoldsSo agrees out gathered n these
Gathers agrees name out gathered (asked ∷ []) = ⊥
Gathers agrees name out gathered [] = ⊥
