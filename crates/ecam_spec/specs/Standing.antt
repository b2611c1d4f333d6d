-- Where an alert stands, as `why` tells it: the first of the standings that applies.
use Rattle.std.specs.Prelude.{ℕ, Bool, true, false, not, ◌&&◌, ◌++◌, nat_le, Option, Some, None, codes, decimal, if◌then◌else◌}
use Rattle.ecam_spec.specs.declared.kinds.Standing.{Standing}
use Rattle.ecam_spec.specs.declared.kinds.Standing.TheVariants.{Dead, Quiet, Waiting, Starred, Cancelled, Cleared, Titled, Counted}
use Rattle.ecam_spec.specs.declared.limits.TheConstants.{ZONE_ROWS}
use Rattle.ecam_spec.specs.Book.{Text}

-- what is so of an alert in a moment
pub record Facts : Type 0 where
  pub present : Bool
  pub active : Bool
  pub shown : Bool
  -- the first active primary
  pub starred_by : Option ℕ
  pub cancelled : Bool
  pub cleared : Bool
  -- the row of its title among all rows of the left zone
  pub title_row : Option ℕ

-- by its title, in the first seven rows or beyond
abbrev pub standing_by_row : Option ℕ → Standing
standing_by_row None = Counted
standing_by_row (Some r) = if nat_le r ZONE_ROWS then Titled r else Counted

abbrev pub standing_by_primary : Option ℕ → Standing → Standing
standing_by_primary (Some p) other = Starred p
standing_by_primary None other = other

-- of an alert in the last moment of an era with a computer up
unfoldable pub standing_of : Facts → Standing
standing_of f =
    if not f.present then Quiet
    else (if not f.active && not f.shown then Waiting
    else standing_by_primary (if f.active then f.starred_by else None)
    (if f.cancelled then Cancelled
    else (if f.cleared then Cleared
    else standing_by_row f.title_row)))

-- the standings that account for an alert that is active or recalled
abbrev pub accounts : Standing → Bool
accounts (Starred p) = true
accounts Cancelled = true
accounts Cleared = true
accounts (Titled r) = true
accounts Counted = true
accounts _ = false

-- it is among the rows of the left zone, those that stand and those beyond
abbrev pub has_row : Standing → Bool
has_row (Titled r) = true
has_row Counted = true
has_row _ = false

abbrev pub is_counted : Standing → Bool
is_counted Counted = true
is_counted _ = false

-- how `why` prints it, where `names` tells the alerts' names
unfoldable pub standing_text : (ℕ → Text) → Standing → Text
standing_text names Dead = codes "dead"
standing_text names Quiet = codes "quiet"
standing_text names Waiting = codes "waiting"
standing_text names (Starred p) = codes "starred " ++ names p
standing_text names Cancelled = codes "cancelled"
standing_text names Cleared = codes "cleared"
standing_text names (Titled r) = codes "titled " ++ decimal r
standing_text names Counted = codes "counted"
