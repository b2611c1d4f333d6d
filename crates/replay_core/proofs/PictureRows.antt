-- Each picture has 36 rows.
use Rattle.std.proofs.Common.{◌≡◌, ℕ, zero, suc, ◌+◌, ◌-◌, true, false, List, [], ◌∷◌, ◌++◌, length, cond, Option, Some, None, refl, arith, length-append, length-take, replicate}
use Rattle.std.proofs.lemmas.List.{length-replicate}
use Rattle.ecam_spec.specs.declared.limits.TheConstants.{PICTURE_ROWS}
use Rattle.ecam_spec.specs.declared.kinds.Event.{Event}
use Rattle.ecam_spec.specs.declared.kinds.Choice.{Choice}
use Rattle.ecam_spec.specs.declared.kinds.Choice.TheVariants.{Auto, Page, Status}
use Rattle.ecam_spec.specs.Book as plain
use Rattle.ecam_spec.specs.Book.{Book}
use Rattle.ecam_spec.specs.Picture.{Row, Picture, blank_row, blank, dead, zone}
use Rattle.ecam_spec.specs.Output.{picture_before}
use Rattle.ecam_spec.specs.History.{Moment, none_up, flags_after, era}
use Rattle.ecam_spec.specs.LeftZone.{left_zone}
use Rattle.ecam_spec.specs.RightZone.{right_zone}
use Rattle.ecam_spec.specs.StatusPage.{status_page}
use Rattle.ecam_spec.specs.SystemDisplay.{Display, page_rows, display_rows}
use Rattle.ecam_spec.specs.Selection.{choice}
use Rattle.ecam_spec.specs.LampRows.{lamp_rows}
use Rattle.ecam_spec.specs.Screen.{display, panel, picture_in}
use Rattle.ecam_spec.specs.Replay.{through, moment_of, tick_count, picture_at, picture, last_picture}

zone-long : (n : ℕ) (rows : List Row) → length (zone n rows) ≡ n
unfolding zone
zone-long n rows = omega (arith, length-take n (rows ++ replicate n blank_row), length-append rows (replicate n blank_row), length-replicate n blank_row)

status-long : (q : ℕ) (rows : List Row) → length (status_page q rows) ≡ 18
unfolding status_page
status-long q [] = zone-long 18 _
status-long q (r ∷ rows) = zone-long 18 _

page-long : (d : Display) (o : Option plain.Page) → length (page_rows d o) ≡ 18
unfolding page_rows
page-long d None = zone-long 18 _
page-long d (Some p) = zone-long 18 _

display-long : (d : Display) (c : Choice) → length (display_rows d c) ≡ 18
unfolding display_rows
display-long d Auto = page-long d _
display-long d (Page i) = page-long d _
display-long d (Status q) = status-long q _

module _ (b : Book) where
  joined-long : (left right display lamps : List Row) (flags : Row) → length left ≡ 7 → length right ≡ 7 → length display ≡ 18 → length lamps ≡ 3
      → length (left ++ right ++ flags ∷ [] ++ display ++ lamps) ≡ PICTURE_ROWS
  joined-long left right display lamps flags l r d m =
      omega (
        arith,
        length-append (left ++ right ++ flags ∷ [] ++ display) lamps,
        length-append (left ++ right ++ flags ∷ []) display,
        length-append (left ++ right) (flags ∷ []),
        length-append left right,
        l,
        r,
        d,
        m,
      )

  moment-long : (m : ℕ → Moment) (k : ℕ) → length (picture_in b m k) ≡ PICTURE_ROWS
  unfolding picture_in left_zone right_zone lamp_rows
  moment-long m k =
      joined-long _ _ _ _ _ (zone-long 7 _) (zone-long 7 _) (display-long (display b m k) (choice (panel b m) k)) refl

  at-long : (h : List Event) → length (picture_at b h) ≡ PICTURE_ROWS
  unfolding picture_at dead
  at-long h =
      elim (none_up (flags_after h)) as (λ c. length (cond c dead (picture_in b (moment_of (era h)) (length (era h).moments - 1))) ≡ PICTURE_ROWS) [
        | true ↦ zone-long PICTURE_ROWS _
        | false ↦ moment-long (moment_of (era h)) (length (era h).moments - 1)
      ]

  before-long : (p : ℕ → Picture) (n : ℕ) → ((t : ℕ) → length (p t) ≡ PICTURE_ROWS) → length (picture_before p n) ≡ PICTURE_ROWS
  unfolding blank
  before-long p zero each = length-replicate PICTURE_ROWS blank_row
  before-long p (suc n) each = each n

  pub last-long : (h : List Event) → length (last_picture b h) ≡ PICTURE_ROWS
  unfolding last_picture picture
  last-long h = before-long (picture b h) (tick_count h) (λ t. at-long (through (t + 1) h))
