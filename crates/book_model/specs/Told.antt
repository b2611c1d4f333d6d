-- Flags that tell which members of a list, or which numbers, pass a test.
use Rattle.std.specs.Prelude.{◌≡◌, ℕ, ◌<◌, Bool, false, List, get_or, slice_get, slice_index_or, Some}

-- of each item of a list
abbrev pub TellsOf : {X : Type 0} → List Bool → List X → (X → Bool) → Type 0
TellsOf {X} flags xs test = (i : ℕ) (x : X) → slice_get xs i ≡ Some x → slice_index_or flags i false ≡ test x

-- the numbers whose flags are set
abbrev pub flagged : List Bool → ℕ → Bool
flagged flags a = get_or flags a false

-- of the numbers below n
abbrev pub TellsBelow : ℕ → List Bool → (ℕ → Bool) → Type 0
TellsBelow n flags test = (a : ℕ) → a < n → get_or flags a false ≡ test a
