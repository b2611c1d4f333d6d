-- Where each alert stands after a history: the accounts of its era's last moment.
use Rattle.std.proofs.Common.{◌≡◌, ℕ, zero, suc, ◌-◌, ◌≤◌, Bool, true, false, not, ◌&&◌, ◌||◌, ◌==◌, List, [], ◌∷◌, ◌++◌, length, get_or, refl, sym, ◌∙◌, ap, cond, arith}
use Rattle.std.specs.Prelude.{count_by}
use Rattle.std.proofs.lemmas.Bool.{ne_eqb}
use Rattle.std.proofs.lemmas.List.{get_or_append_left, get_or_at, length-append}
use Rattle.ecam_spec.specs.declared.kinds.Event.{Event}
use Rattle.ecam_spec.specs.declared.kinds.Standing.{Standing}
use Rattle.ecam_spec.specs.declared.kinds.Standing.TheVariants.{Dead, Quiet, Titled}
use Rattle.ecam_spec.specs.Book.{Book}
use Rattle.ecam_spec.specs.History.{none_up, flags_after, era}
use Rattle.ecam_spec.specs.Picture.{Row, row, blank_row}
use Rattle.ecam_spec.specs.LeftZone.{title_colour, overflow, has_more, left_zone}
use Rattle.ecam_spec.specs.RightZone.{right_beyond, right_zone}
use Rattle.ecam_spec.specs.StatusPage.{flags, flags_row}
use Rattle.ecam_spec.specs.Standing.{accounts, has_row, is_counted}
use Rattle.ecam_spec.specs.declared.kinds.Key.TheVariants.{Rcl}
use Rattle.ecam_spec.specs.Keys.{pressed}
use Rattle.ecam_spec.specs.Crew.{struck}
use Rattle.ecam_spec.specs.Situation.{alert_at, strokes_in, active_in, waiting_in, up_in}
use Rattle.ecam_spec.specs.Screen.{alert_numbers, cockpit, shown_in, is_shown_in, cleared_in, recalled_in, cancelled_in, left_in, right_in, status_in, picture_in}
use Rattle.ecam_spec.specs.Replay.{moment_of, last_picture, standing_in, standing}
use Rattle.ecam_spec.proofs.AccountLaws.{accounted, recalled_listed, titled_stands, counted_is_overflow}
use Rattle.ecam_spec.proofs.ListLaws.{count_by-agree}
use Rattle.ecam_spec.proofs.RecallLaws.{cleared_stays, cleared_recalled, waiting_shown}
use Rattle.zone_rows.proofs.Zones.{zone_long}
use Rattle.fwc_pair.specs.Lasts.{IsLast}
use Rattle.fwc_pair.proofs.Histories.{era_shown}

some-moment : (k : ℕ) (s : Standing) → cond (suc k == 0) Quiet s ≡ s
some-moment k s = ap (λ t. cond t Quiet s) (ne_eqb (suc k) 0 (λ e. absurd (let w : ⊥ = omega arith in w)))

-- in the last moment of an era that is there
pub standing-last : (b : Book) (h : List Event) (k a : ℕ) → IsLast h k → standing b h a ≡ standing_in b (moment_of (era h)) k a
unfolding standing
standing-last b h k a last =
    let of : ℕ → Standing = λ n. cond (n == 0) Quiet (standing_in b (moment_of (era h)) (n - 1) a) in
    let now : suc k - 1 ≡ k = omega arith in
    ap (λ t. cond t Dead (of (length (era h).moments))) last.up
    ∙ ap of last.count
    ∙ some-moment k (standing_in b (moment_of (era h)) (suc k - 1) a)
    ∙ ap (λ n. standing_in b (moment_of (era h)) n a) now

pub last_shown : (b : Book) (h : List Event) (k : ℕ) → IsLast h k → last_picture b h ≡ picture_in b (moment_of (era h)) k
last_shown b h k last = era_shown b h last.up k last.count

module _ (b : Book) (h : List Event) (k : ℕ) (last : IsLast h k) where
  pub each_accounted : (a : ℕ) → accounts (standing b h a) ≡ (active_in b (moment_of (era h)) a k || (recalled_in b (moment_of (era h)) a k && not (cancelled_in b (moment_of (era h)) a k)))
  each_accounted a = ap accounts (standing-last b h k a last) ∙ accounted b (moment_of (era h)) a k

  pub recalled_has_row : (a : ℕ) → recalled_in b (moment_of (era h)) a k ≡ true → cancelled_in b (moment_of (era h)) a k ≡ false → has_row (standing b h a) ≡ true
  recalled_has_row a recalled free = ap has_row (standing-last b h k a last) ∙ recalled_listed b (moment_of (era h)) a k recalled free

  titled-there : (a r : ℕ) → standing b h a ≡ Titled r
      → (1 ≤ r) × (r ≤ 7) × (get_or (last_picture b h) (r - 1) blank_row ≡ row (title_colour (alert_at b a).level) (alert_at b a).title)
  titled-there a r is =
      let stood = titled_stands b (moment_of (era h)) a k r (sym (standing-last b h k a last) ∙ is) in
      (stood.0, stood.1, ap (λ p. get_or p (r - 1) blank_row) (era_shown b h last.up k last.count) ∙ stood.2)

  pub counted_number : count_by (λ a. is_counted (standing b h a)) (alert_numbers b) ≡ overflow (left_in b (moment_of (era h)) k)
  counted_number =
      count_by-agree (λ a. is_counted (standing b h a)) (λ a. is_counted (standing_in b (moment_of (era h)) k a)) (alert_numbers b) (λ a among. ap is_counted (standing-last b h k a last))
      ∙ counted_is_overflow b (moment_of (era h)) k

  -- FL is the row behind the two zones of seven
  flags-at : (l r : List Row) (f : Row) (d m : List Row) → length l ≡ 7 → length r ≡ 7 → get_or ((((l ++ r) ++ f ∷ []) ++ d) ++ m) 14 blank_row ≡ f
  flags-at l r f d m seven more =
      let two : length (l ++ r) ≡ 14 = omega (arith, length-append l r) in
      let three : length ((l ++ r) ++ f ∷ []) ≡ 15 = omega (arith, length-append (l ++ r) (f ∷ [])) in
      get_or_append_left (((l ++ r) ++ f ∷ []) ++ d) m blank_row 14 (omega (arith, length-append ((l ++ r) ++ f ∷ []) d))
      ∙ get_or_append_left ((l ++ r) ++ f ∷ []) d blank_row 14 (omega arith)
      ∙ get_or_at (l ++ r) f [] blank_row 14 two

  pub flags_told : get_or (last_picture b h) 14 blank_row
      ≡ flags_row (flags (has_more (left_in b (moment_of (era h)) k)) (count_by (λ a. is_counted (standing b h a)) (alert_numbers b)) (right_beyond (right_in b (moment_of (era h)) k)) (status_in b (moment_of (era h)) k))
  unfolding picture_in left_zone right_zone
  flags_told =
      let m = moment_of (era h) in
      ap (λ p. get_or p 14 blank_row) (era_shown b h last.up k last.count)
      ∙ flags-at (left_zone (left_in b m k)) (right_zone (right_in b m k)) _ _ _ (zone_long 7 _) (zone_long 7 (right_in b m k))
      ∙ ap (λ n. flags_row (flags (has_more (left_in b m k)) n (right_beyond (right_in b m k)) (status_in b m k))) (sym counted_number)

-- where a title stands, there is a last moment
last-there : (b : Book) (h : List Event) (a r : ℕ) (n : Bool) (k : ℕ) → none_up (flags_after h) ≡ n → length (era h).moments ≡ k → standing b h a ≡ Titled r → (j : ℕ) × IsLast h j
unfolding standing
last-there b h a r true k down count is =
    absurd (let e = sym (ap (λ t. cond t Dead (cond (length (era h).moments == 0) Quiet (standing_in b (moment_of (era h)) (length (era h).moments - 1) a))) down) ∙ is in let w : ⊥ = cc in w)
last-there b h a r false zero up count is =
    absurd
    (let e = sym
    (ap (λ t. cond t Dead (cond (length (era h).moments == 0) Quiet (standing_in b (moment_of (era h)) (length (era h).moments - 1) a))) up
    ∙ ap (λ i. cond (i == 0) Quiet (standing_in b (moment_of (era h)) (i - 1) a)) count)
    ∙ is in
    let w : ⊥ = cc in w)
last-there b h a r false (suc j) up count is = (j, record { up = up; count = count })

pub titled_there : (b : Book) (h : List Event) (a r : ℕ) → standing b h a ≡ Titled r
    → (1 ≤ r) × (r ≤ 7) × (get_or (last_picture b h) (r - 1) blank_row ≡ row (title_colour (alert_at b a).level) (alert_at b a).title)
titled_there b h a r is =
    let there = last-there b h a r (none_up (flags_after h)) (length (era h).moments) refl refl is in
    titled-there b h there.0 there.1 a r is

-- what a press of RCL shows in the last moment

pub cleared_hidden : (b : Book) (h : List Event) (k a : ℕ) → IsLast h (suc k) → cleared_in b (moment_of (era h)) a k ≡ true
    → pressed (strokes_in b (moment_of (era h))) Rcl (suc k) ≡ false → is_shown_in b (moment_of (era h)) a (suc k) ≡ false
cleared_hidden b h k a last cleared none = cleared_stays b (moment_of (era h)) a k cleared none

pub cleared_restored : (b : Book) (h : List Event) (k a : ℕ) → IsLast h (suc k) → cleared_in b (moment_of (era h)) a k ≡ true
    → pressed (strokes_in b (moment_of (era h))) Rcl (suc k) ≡ true
    → is_shown_in b (moment_of (era h)) a (suc k) ≡ (up_in b (moment_of (era h)) a (suc k) && not (cancelled_in b (moment_of (era h)) a (suc k)))
cleared_restored b h k a last cleared press = cleared_recalled b (moment_of (era h)) a k cleared press

pub waiting_recalled : (b : Book) (h : List Event) (k a : ℕ) → IsLast h k → waiting_in b (moment_of (era h)) a k ≡ true
    → pressed (strokes_in b (moment_of (era h))) Rcl k ≡ true
    → is_shown_in b (moment_of (era h)) a k ≡ (not (struck (cockpit b (moment_of (era h))) (shown_in b (moment_of (era h))) a k) && not (cancelled_in b (moment_of (era h)) a k))
waiting_recalled b h k a last waits press = waiting_shown b (moment_of (era h)) a k waits press
