-- The places of the shown alerts in the order.
use Rattle.std.specs.Prelude.{◌≡◌, ℕ, ◌<◌, Bool, false, List, length, get_or}
use Rattle.wakes.specs.Marks.{is_marked}

-- place r of the order is in the set exactly where the alert there is shown
abbrev pub HasPlaces : List ℕ → List Bool → List ℕ → Type 0
HasPlaces order shown set = (r : ℕ) → r < length order → is_marked set r ≡ get_or shown (get_or order r 0) false
