-- The alerts by their places in the order in which they are shown.
use Rattle.std.specs.Prelude.{◌≡◌, ℕ, ◌<◌, Bool, false, List, length, get_or}
use Rattle.wakes.specs.Marks.{is_marked}

-- by alert its place in the order, in which each stands once
pub record AreRanks (order ranks : List ℕ) : Type 0 where
  pub many : length ranks ≡ length order
  pub within : (a : ℕ) → a < length ranks → get_or ranks a 0 < length order
  pub is : (a : ℕ) → a < length ranks → get_or order (get_or ranks a 0) 0 ≡ a
  pub of : (r : ℕ) → r < length order → get_or ranks (get_or order r 0) 0 ≡ r

-- place r of the order is in the set exactly where the alert there is shown
abbrev pub TellsPlaces : List ℕ → List Bool → List ℕ → Type 0
TellsPlaces order shown set = (r : ℕ) → r < length order → is_marked set r ≡ get_or shown (get_or order r 0) false
