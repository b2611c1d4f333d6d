-- What the stars say of the alerts that are active.
use Rattle.std.specs.Prelude.{◌≡◌, ◌↔◌, ℕ, ◌<◌, ◌+◌, ◌*◌, ◌/◌, Bool, true, false, not, ◌&&◌, ◌==◌, List, [], length, get_or, set, Option, None, is_some}
use Rattle.std.specs.List.{list_any}
use Rattle.ecam_spec.specs.Past.{Signal, previously}
use Rattle.ecam_spec.specs.Book.{Book}
use Rattle.wakes.specs.Marks.{is_marked, room}
use Rattle.alert_truth.specs.Alerts.{Tells, starred_where, starred_by_where, up_where}
use Rattle.alert_truth.specs.Listed.{ListersFit}
use Rattle.alert_truth.specs.declared.stars.Stars.{Stars}

-- the stars were made for the book
pub record StarsFit (b : Book) (s : Stars) : Type 0 where
  pub listers : ListersFit b s.listers
  pub asked : room s.asked ≡ 64 * (length b.alerts / 64 + 1)
  pub primaries : length s.primaries.items ≡ length b.alerts
  pub starred : length s.starred.items ≡ length b.alerts
  pub up : length s.up.items ≡ length b.alerts

-- they stand for the k moments in which these alerts were active
pub record StarsStand (b : Book) (active : ℕ → Signal) (k : ℕ) (s : Stars) : Type 0 where
  pub primaries : (a : ℕ) → a < length b.alerts → get_or s.primaries.items a None ≡ previously (starred_by_where b active a) k
  pub starred : Tells (length b.alerts) s.starred.items (starred_where b active) k
  pub up : Tells (length b.alerts) s.up.items (up_where b active) k

-- there is an alert of this number
pub record HasPlace (a : ℕ) (s : Stars) : Type 0 where
  pub primaries : a < length s.primaries.items
  pub starred : a < length s.starred.items
  pub up : a < length s.up.items

-- one alert takes over its primary, and it is noted whether it turned
pub record Takes (a : ℕ) (active : Bool) (primary : Option ℕ) (old new : Stars) : Type 0 where
  pub listers : new.listers ≡ old.listers
  pub asked : new.asked ≡ old.asked
  pub primaries : new.primaries.items ≡ set old.primaries.items a primary
  pub starred : new.starred.items ≡ set old.starred.items a (is_some primary)
  pub up : new.up.items ≡ set old.up.items a (active && not (is_some primary))
  pub turned : (new.turned ≡ false) ↔ ((old.turned ≡ false) × (get_or new.starred.items a false ≡ get_or old.starred.items a false))

-- nothing is told of alert a
pub record IsAway (a : ℕ) (s : Stars) : Type 0 where
  pub primaries : get_or s.primaries.items a None ≡ None
  pub starred : get_or s.starred.items a false ≡ false
  pub up : get_or s.up.items a false ≡ false

-- where alert a isn't asked it didn't turn, and none below n did that lists it as secondary
pub record IsUnasked (lists : List (List ℕ)) (turned : List ℕ) (n a : ℕ) : Type 0 where
  pub own : is_marked turned a ≡ false
  pub listers : (p : ℕ) → p < n → is_marked turned p ≡ true → list_any (λ s. s == a) (get_or lists p []) ≡ false
