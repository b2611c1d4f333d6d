-- The five zones of a moment, each filled or left alone, are its picture.
use Rattle.std.proofs.Common.{◌≡◌, ℕ, suc, ◌+◌, ◌<◌, ◌≤◌, false, not, ◌||◌, List, [], ◌∷◌, ◌++◌, length, get_or, Option, Some, None, refl, sym, ap, subst, ◌∙◌, arith}
use Rattle.std.proofs.Math.Bool.{false-or}
use Rattle.std.specs.Prelude.{nat_lt}
use Rattle.ecam_spec.specs.declared.kinds.Choice.{Choice}
use Rattle.ecam_spec.specs.declared.kinds.Choice.TheVariants.{Auto, Page, Status}
use Rattle.ecam_spec.specs.Book as plain
use Rattle.ecam_spec.specs.Book.{Book}
use Rattle.ecam_spec.specs.Picture.{Row, Picture, blank_row, same_row}
use Rattle.ecam_spec.specs.History.{Moment}
use Rattle.ecam_spec.specs.Output.{picture_before}
use Rattle.ecam_spec.specs.LeftZone.{left_zone}
use Rattle.ecam_spec.specs.RightZone.{right_zone}
use Rattle.ecam_spec.specs.StatusPage.{status_page}
use Rattle.ecam_spec.specs.SystemDisplay.{Display, page_rows, display_rows}
use Rattle.ecam_spec.specs.Selection.{choice}
use Rattle.ecam_spec.specs.LampRows.{lamp_rows}
use Rattle.ecam_spec.specs.Screen.{left_in, right_in, status_in, display, panel, picture_in}
use Rattle.zone_rows.specs.Tracked.{TrackedRows, IsWhole, differs, row_at}
use Rattle.zone_rows.specs.Mended.{Mends}
use Rattle.zone_rows.specs.Zones.{HaveZoneLengths, StandAt, ZonesStand, IsMended}
use Rattle.zone_rows.proofs.Zones.{stands_behind, five_zones, zones_stand, zone_long}
use Rattle.warning_display.specs.LeftRows.{FillsLeft}
use Rattle.warning_display.specs.RightRows.{FillsRight}
use Rattle.fwc_lane.specs.declared.counts.FlagCounts.{FlagCounts}
use Rattle.fwc_lane.specs.ChangedRows.{row_changed, TellsRows}
use Rattle.fwc_lane.specs.Drawn.{AreCounts, IsDrawn, LeftStands, RightStands, FlagsStand, flag_rows_in, display_rows_in, lamp_rows_in}

-- ---- how long they are

status-long : (q : ℕ) (rows : List Row) → length (status_page q rows) ≡ 18
unfolding status_page
status-long q [] = zone_long 18 _
status-long q (r ∷ rows) = zone_long 18 _

page-long : (d : Display) (o : Option plain.Page) → length (page_rows d o) ≡ 18
unfolding page_rows
page-long d None = zone_long 18 _
page-long d (Some p) = zone_long 18 _

display-long : (d : Display) (c : Choice) → length (display_rows d c) ≡ 18
unfolding display_rows
display-long d Auto = page-long d _
display-long d (Page i) = page-long d _
display-long d (Status q) = status-long q _

module _ (b : Book) (m : ℕ → Moment) (k : ℕ) where
  pub zone-lengths : HaveZoneLengths (left_zone (left_in b m k)) (right_zone (right_in b m k)) (flag_rows_in b m k) (display_rows_in b m k) (lamp_rows_in b m k)
  unfolding left_zone right_zone lamp_rows
  zone-lengths = record {
    left = zone_long 7 _;
    right = zone_long 7 _;
    flags = refl;
    display = display-long (display b m k) (choice (panel b m) k);
    lamps = refl;
  }

  pub picture-zones : picture_in b m k ≡ left_zone (left_in b m k) ++ right_zone (right_in b m k) ++ flag_rows_in b m k ++ display_rows_in b m k ++ lamp_rows_in b m k
  unfolding picture_in
  picture-zones = refl

  -- the zones of a picture that is shown
  pub picture-stands : (rows : Picture) → rows ≡ picture_in b m k
      → ZonesStand (left_zone (left_in b m k)) (right_zone (right_in b m k)) (flag_rows_in b m k) (display_rows_in b m k) (lamp_rows_in b m k) rows
  picture-stands rows is =
      subst (ZonesStand (left_zone (left_in b m k)) (right_zone (right_in b m k)) (flag_rows_in b m k) (display_rows_in b m k) (lamp_rows_in b m k)) (sym (is ∙ picture-zones))
      (zones_stand _ _ _ _ _ zone-lengths)

  -- ---- the zones of moment k are mended one after another

  module _ (s t u v w x : TrackedRows) (whole : IsWhole s) (left : Mends 0 (left_zone (left_in b m k)) s t) (right : Mends 7 (right_zone (right_in b m k)) t u)
      (fl : Mends 14 (flag_rows_in b m k) u v) (sd : Mends 15 (display_rows_in b m k) v w) (lamps : Mends 33 (lamp_rows_in b m k) w x) where
    mended : IsMended (left_zone (left_in b m k) ++ right_zone (right_in b m k) ++ flag_rows_in b m k ++ display_rows_in b m k ++ lamp_rows_in b m k) s x
    mended = five_zones _ _ _ _ _ zone-lengths s t u v w x whole left right fl sd lamps

    pub drawn-rows : x.rows ≡ picture_in b m k
    drawn-rows = mended.rows ∙ sym picture-zones

    pub drawn-changed : s.rows ≡ picture_before (picture_in b m) k → ((i : ℕ) → i < 36 → get_or s.changed i false ≡ false) → TellsRows (picture_in b m) (suc k) x.changed
    unfolding row_changed
    drawn-changed was none = λ i lt.
        mended.changed i lt
        ∙ ap (λ c. c || differs s x i) (none i lt)
        ∙ false-or (differs s x i)
        ∙ ap (λ rs. not (same_row (get_or rs i blank_row) (row_at x i))) was
        ∙ ap (λ rs. not (same_row (get_or (picture_before (picture_in b m) k) i blank_row) (get_or rs i blank_row))) drawn-rows

-- a zone of moment j still stands after one of moment k before it was mended
module _ (at : ℕ) (put : List Row) (old new : TrackedRows) (whole : IsWhole old) (mends : Mends at put old new) where
  pub still : (from : ℕ) (these : List Row) → at + length put ≤ 36 → at + length put ≤ from → StandAt from these old.rows → StandAt from these new.rows
  still from these room behind stands = stands_behind at put old new from these (omega (arith, whole.rows)) behind mends stands

-- ---- what the calls make of a moment, one after another

pub record Draws (b : Book) (m : ℕ → Moment) (k : ℕ) (was counts : FlagCounts) (s t u v w x : TrackedRows) : Type 0 where
  pub whole_s : IsWhole s
  pub whole_t : IsWhole t
  pub whole_u : IsWhole u
  pub whole_v : IsWhole v
  pub whole_w : IsWhole w
  pub left : ((j : ℕ) → k ≡ suc j → LeftStands b m j s.rows was.left) → FillsLeft (left_in b m k) counts.left s t
  pub right : ((j : ℕ) → k ≡ suc j → RightStands b m j t.rows was.right) → FillsRight (right_in b m k) counts.right t u
  pub status : ((j : ℕ) → k ≡ suc j → was.status ≡ nat_lt 0 (length (status_in b m j))) → counts.status ≡ nat_lt 0 (length (status_in b m k))
  pub flags : AreCounts b m k counts → ((j : ℕ) → k ≡ suc j → FlagsStand b m j u.rows was) → Mends 14 (flag_rows_in b m k) u v
  pub display : ((j : ℕ) → k ≡ suc j → StandAt 15 (display_rows_in b m j) v.rows) → Mends 15 (display_rows_in b m k) v w
  pub lamps : ((j : ℕ) → k ≡ suc j → StandAt 33 (lamp_rows_in b m j) w.rows) → Mends 33 (lamp_rows_in b m k) w x

module _ (b : Book) (m : ℕ → Moment) (k : ℕ) (was counts : FlagCounts) (s t u v w x : TrackedRows) (draws : Draws b m k was counts s t u v w x) (before : IsDrawn b m k s.rows was) where
  long : HaveZoneLengths (left_zone (left_in b m k)) (right_zone (right_in b m k)) (flag_rows_in b m k) (display_rows_in b m k) (lamp_rows_in b m k)
  long = zone-lengths b m k

  stood : (j : ℕ) → k ≡ suc j → ZonesStand (left_zone (left_in b m j)) (right_zone (right_in b m j)) (flag_rows_in b m j) (display_rows_in b m j) (lamp_rows_in b m j) s.rows
  stood j e = picture-stands b m j s.rows (before.picture ∙ ap (picture_before (picture_in b m)) e)

  left : FillsLeft (left_in b m k) counts.left s t
  left = draws.left (λ j e. record { zone = (stood j e).left; counted = (before.counted j e).left })

  past-left : (from : ℕ) (these : List Row) → 7 ≤ from → StandAt from these s.rows → StandAt from these t.rows
  past-left from these behind = still 0 (left_zone (left_in b m k)) s t draws.whole_s left.rows from these (omega (arith, long.left)) (omega (arith, long.left))

  right : FillsRight (right_in b m k) counts.right t u
  right = draws.right (λ j e. record { zone = past-left 7 _ (omega arith) (stood j e).right; counted = (before.counted j e).right })

  past-right : (from : ℕ) (these : List Row) → 14 ≤ from → StandAt from these s.rows → StandAt from these u.rows
  past-right from these behind stands =
      still 7 (right_zone (right_in b m k)) t u draws.whole_t right.rows from these (omega (arith, long.right)) (omega (arith, long.right)) (past-left from these (omega arith) stands)

  counted : AreCounts b m k counts
  counted = record {
    left = record { beyond = left.beyond; more = left.more };
    right = right.beyond;
    status = draws.status (λ j e. (before.counted j e).status);
  }

  flagged : Mends 14 (flag_rows_in b m k) u v
  flagged = draws.flags counted (λ j e. record { zone = past-right 14 _ (omega arith) (stood j e).flags; counted = before.counted j e })

  past-flags : (from : ℕ) (these : List Row) → 15 ≤ from → StandAt from these s.rows → StandAt from these v.rows
  past-flags from these behind stands =
      still 14 (flag_rows_in b m k) u v draws.whole_u flagged from these (omega (arith, long.flags)) (omega (arith, long.flags)) (past-right from these (omega arith) stands)

  displayed : Mends 15 (display_rows_in b m k) v w
  displayed = draws.display (λ j e. past-flags 15 _ (omega arith) (stood j e).display)

  lit : Mends 33 (lamp_rows_in b m k) w x
  lit = draws.lamps (λ j e.
      still 15 (display_rows_in b m k) v w draws.whole_v displayed 33 _ (omega (arith, long.display)) (omega (arith, long.display)) (past-flags 33 _ (omega arith) (stood j e).lamps))

  pub draws-picture : IsDrawn b m (suc k) x.rows counts
  draws-picture = record {
    picture = drawn-rows b m k s t u v w x draws.whole_s left.rows right.rows flagged displayed lit;
    counted = λ j e. subst (λ i. AreCounts b m i counts) (let same : k ≡ j = omega arith in same) counted;
  }

  pub draws-changed : ((i : ℕ) → i < 36 → get_or s.changed i false ≡ false) → TellsRows (picture_in b m) (suc k) x.changed
  draws-changed none = drawn-changed b m k s t u v w x draws.whole_s left.rows right.rows flagged displayed lit before.picture none
