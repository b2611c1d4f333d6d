-- What one step of one alert writes.
use Rattle.std.specs.Prelude.{◌≡◌, ◌↔◌, ℕ, ◌<◌, Bool, false, not, ◌&&◌, ◌||◌, ◌==◌, length, get_or, set, slice_set, Option, is_some, if◌then◌else◌}
use Rattle.wakes.specs.Marks.{is_marked, room}
use Rattle.alert_truth.specs.declared.truths.Truths.{Truths}

-- there is an alert of this number
pub record HasAlert (a : ℕ) (t : Truths) : Type 0 where
  pub since : a < length t.since.items
  pub present : a < length t.present.items
  pub active : a < length t.active.items
  pub waiting : a < length t.waiting.items
  pub restless : a < room t.restless
  pub near : a < room t.near
  pub turned : a < room t.turned
  pub dues : a < length t.dues

-- what alert a has become is noted, and whether it is another than before
pub record Notes (a : ℕ) (start : Option ℕ) (is_present is_active : Bool) (key : ℕ) (old new : Truths) : Type 0 where
  pub moments : new.moments ≡ old.moments
  pub since : new.since.items ≡ set old.since.items a start
  pub present : new.present.items ≡ set old.present.items a is_present
  pub active : new.active.items ≡ set old.active.items a is_active
  pub waiting : new.waiting.items ≡ set old.waiting.items a (is_present && not is_active)
  pub near_room : room new.near ≡ room old.near
  pub turned_room : room new.turned ≡ room old.turned
  pub room : room new.restless ≡ room old.restless
  pub restless : (j : ℕ) → is_marked new.restless j ≡ (if j == a then is_some start && not is_active else is_marked old.restless j)
  pub near : (j : ℕ) → is_marked new.near j ≡ ((j == a && (is_present || is_active)) || is_marked old.near j)
  pub dues : new.dues ≡ slice_set old.dues a key
  pub due : new.due ≡ old.due
  pub stars : new.stars ≡ old.stars
  pub changed : new.changed ≡ old.changed
  pub changing : (new.changing ≡ false)
      ↔ ((old.changing ≡ false) × (is_present ≡ get_or old.present.items a false) × (is_active ≡ get_or old.active.items a false))

-- whoever isn't among those that turned wasn't, and if it is alert a, that is as it was
abbrev pub Turns : ℕ → Bool → Bool → Truths → Truths → Type 0
Turns a is_present is_active old new = (j : ℕ) → is_marked new.turned j ≡ false → (is_marked old.turned j ≡ false)
    × (j ≡ a → (is_present ≡ get_or old.present.items a false) × (is_active ≡ get_or old.active.items a false))
