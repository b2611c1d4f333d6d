-- Each zone of a moment: left alone where nothing turned that it shows, else filled by what the moment shows.
use Rattle.std.proofs.Common.{◌≡◌, ◌↔◌, ℕ, zero, suc, ◌<◌, Bool, true, false, ◌||◌, ◌==◌, List, [], ◌∷◌, ◌++◌, length, slice_get, Option, Some, refl, sym, ap, subst, ◌∙◌}
use Rattle.std.specs.Prelude.{filter, ℤ, codes, decimal, nat_lt, if◌then◌else◌}
use Rattle.std.specs.Int.{from_bool}
use Rattle.std.specs.Option.{option_and_then}
use Rattle.ecam_spec.specs.declared.kinds.Choice.{Choice}
use Rattle.ecam_spec.specs.declared.kinds.Choice.TheVariants.{Auto, Page, Status}
use Rattle.ecam_spec.specs.Book.{Book, Memo}
use Rattle.ecam_spec.specs.Past.{previous}
use Rattle.ecam_spec.specs.Term.{holds}
use Rattle.ecam_spec.specs.Crew.{normal, target}
use Rattle.ecam_spec.specs.Picture.{Row, blank_row}
use Rattle.ecam_spec.specs.History.{Moment}
use Rattle.ecam_spec.specs.LeftZone.{left_zone, has_more, overflow}
use Rattle.ecam_spec.specs.StatusPage.{flags, flags_row, status_page}
use Rattle.ecam_spec.specs.RightZone.{right_zone, right_beyond}
use Rattle.ecam_spec.specs.declared.kinds.Sound.{Sound}
use Rattle.ecam_spec.specs.SystemDisplay.{Display, page_rows, called_page, display_rows}
use Rattle.ecam_spec.specs.Lamps.{warns, cautions, sound}
use Rattle.ecam_spec.specs.Selection.{choice}
use Rattle.ecam_spec.specs.Situation.{alert_at, world, condition_in, phase_in, active_in, starred_in}
use Rattle.ecam_spec.specs.Screen as screen
use Rattle.ecam_spec.specs.Screen.{order, cockpit, panel, attention, display, line_stands, shown_in, is_shown_in, cancelled_in, left_in, right_in, status_in}
use Rattle.ecam_spec.specs.LampRows.{lamp_rows}
use Rattle.ecam_spec.proofs.CrewSteps.{shown-flags}
use Rattle.alert_truth.specs.TruthsState.{Unchanged, StarsStay}
use Rattle.attention.specs.State.{lights_after}
use Rattle.system_display.specs.Selecting.{IsKept}
use Rattle.zone_rows.specs.Tracked.{TrackedRows}
use Rattle.zone_rows.specs.Mended.{Mends}
use Rattle.zone_rows.specs.Zones.{StandAt}
use Rattle.zone_rows.proofs.Mending.{mends_kept}
use Rattle.warning_display.specs.declared.left.LeftCount.{LeftCount}
use Rattle.warning_display.specs.LeftRows.{left_of, in_order, FillsLeft}
use Rattle.warning_display.specs.RightRows.{right_of, FillsRight}
use Rattle.status_page.specs.StatusOf.{status_of}
use Rattle.fwc_lane.specs.declared.counts.FlagCounts.{FlagCounts}
use Rattle.fwc_lane.specs.declared.scene.Turned.{Turned}
use Rattle.fwc_lane.specs.Scenes.{AreTurned, shown_turned}
use Rattle.fwc_lane.specs.Drawn.{AreCounts, LeftStands, RightStands, FlagsStand, flag_rows_in, display_rows_in, lamp_rows_in}
use Rattle.fwc_lane.proofs.FlagSteps.{left-false, right-false}
use Rattle.fwc_lane.proofs.Showing.{active-is, starred-is}
use Rattle.fwc_lane.proofs.PagesAlike.{display_with, page-with, one-of-book}
use Rattle.fwc_lane.proofs.ZoneRest.{shown-kept, left-kept, right-kept, status-kept, one-page-kept, called-page-kept, status-page-kept}

-- a function of two that are equal
along : {X Y : Type 0} {x y : X} → x ≡ y → (f : X → Y) → f x ≡ f y
along same f = ap f same

-- of the rows of the status page the flags tell only whether there are any
flags-same : (p q : Bool) (i j n k : ℕ) (these those : List Row) → p ≡ q → i ≡ j → n ≡ k → nat_lt 0 (length these) ≡ nat_lt 0 (length those) → flags_row (flags p i n these) ∷ [] ≡ flags_row (flags q j k those) ∷ []
unfolding flags
flags-same p q i j n k these those more beyond right status =
    ap (λ x. flags_row (flags x i n these) ∷ []) more ∙ ap (λ x. flags_row (flags q x n these) ∷ []) beyond ∙ ap (λ x. flags_row (flags q j x these) ∷ []) right
    ∙ ap (λ x. flags_row ((if q then codes "v" ∷ [] else []) ++ (if nat_lt 0 j then (codes "OVF " ++ decimal j) ∷ [] else []) ++ (if nat_lt 0 k then (codes "RGT " ++ decimal k) ∷ [] else []) ++ (if x then codes "STS" ∷ [] else [])) ∷ []) status

-- one row where there are any
abbrev some_row : Bool → List Row
some_row some = if some then blank_row ∷ [] else []

some-long : (some : Bool) → length (some_row some) ≡ from_bool some
some-long true = refl
some-long false = refl

some-told : (some : Bool) → nat_lt 0 (length (some_row some)) ≡ some
some-told true = refl
some-told false = refl

module _ (b : Book) (m : ℕ → Moment) where
  -- ---- the left zone

  pub left-stays : (k : ℕ) (t : Turned) → AreTurned b m k t → (t.first || (t.marks || (t.lines || (t.memos || t.normal)))) ≡ false → (count : LeftCount) (s : TrackedRows)
      → ((j : ℕ) → k ≡ suc j → LeftStands b m j s.rows count) → FillsLeft (left_in b m k) count s s
  left-stays zero t turned off count s was = absurd (let on : t.first ≡ true = turned.first in let none : t.first ≡ false = left-false t.first _ off in let w : ⊥ = cc in w)
  left-stays (suc j) t turned off count s was =
      let rest = right-false t.first _ off in
      let others = right-false t.marks _ rest in
      let last = right-false t.lines _ others in
      let same : left_in b m (suc j) ≡ left_in b m j =
      left-kept b m (suc j) j (turned.memos j refl (left-false t.memos _ last)) (turned.lines j refl (left-false t.lines _ others))
      (shown-kept b m (suc j) j (turned.shown j refl (left-false t.marks _ rest))) (turned.normal j refl (right-false t.memos _ last)) in
      let stands = was j refl in
      subst (λ rows. FillsLeft rows count s s) (sym same) (record {
        rows = mends_kept 0 (left_zone (left_in b m j)) s stands.zone;
        beyond = stands.counted.beyond;
        more = stands.counted.more;
      })

  pub left-drawn : (k : ℕ) (calm : Bool) (count : LeftCount) (s t : TrackedRows) → calm ≡ normal (cockpit b m) k
      → FillsLeft (left_of b (line_stands b m k) (λ (x : Memo). holds (world b m) x.when k) (in_order b (λ a. is_shown_in b m a k)) calm) count s t → FillsLeft (left_in b m k) count s t
  unfolding left_in screen.memo_rows left_of
  left-drawn k calm count s t is fills =
      let shown : filter (λ a. is_shown_in b m a k) (order b) ≡ shown_in b m k = sym (shown-flags b m (λ a. is_shown_in b m a k) k (λ a lt. refl)) in
      rw (shown, is) at fills

  -- ---- the right zone

  -- which alerts are starred where no star turned, and which are active where no alert did
  starred-kept : (k j : ℕ) → k ≡ suc j → StarsStay b (condition_in b m) (phase_in b m) k → (a : ℕ) → a < length b.alerts → starred_in b m a k ≡ starred_in b m a j
  unfolding previous
  starred-kept k j next kept a lt = sym (starred-is b m a k) ∙ kept.starred a lt ∙ ap (previous _) next ∙ starred-is b m a j

  active-kept : (k j : ℕ) → k ≡ suc j → Unchanged b (condition_in b m) (phase_in b m) k → (a : ℕ) → a < length b.alerts → active_in b m a k ≡ active_in b m a j
  unfolding previous
  active-kept k j next kept a lt = sym (active-is b m a k) ∙ kept.active a lt ∙ ap (previous _) next ∙ active-is b m a j

  pub right-stays : (k : ℕ) (t : Turned) (stars : Bool) → AreTurned b m k t → (stars ≡ false) ↔ StarsStay b (condition_in b m) (phase_in b m) k → (t.first || (stars || t.memos)) ≡ false
      → (count : ℕ) (s : TrackedRows) → ((j : ℕ) → k ≡ suc j → RightStands b m j s.rows count) → FillsRight (right_in b m k) count s s
  right-stays zero t stars turned same off count s was = absurd (let on : t.first ≡ true = turned.first in let none : t.first ≡ false = left-false t.first _ off in let w : ⊥ = cc in w)
  right-stays (suc j) t stars turned same off count s was =
      let rest = right-false t.first _ off in
      let kept = same.0 (left-false stars _ rest) in
      let zone : right_in b m (suc j) ≡ right_in b m j = right-kept b m (suc j) j (turned.memos j refl (right-false stars _ rest)) (starred-kept (suc j) j refl kept) in
      let stands = was j refl in
      subst (λ rows. FillsRight rows count s s) (sym zone) (record { rows = mends_kept 7 (right_zone (right_in b m j)) s stands.zone; beyond = stands.counted })

  pub right-drawn : (k count : ℕ) (s t : TrackedRows) → FillsRight (right_of b (λ a. starred_in b m a k) (λ (x : Memo). holds (world b m) x.when k)) count s t → FillsRight (right_in b m k) count s t
  unfolding right_in screen.memo_rows screen.starred_systems right_of
  right-drawn k count s t fills = fills

  -- ---- the status page

  pub status-stays : (k : ℕ) (t : Turned) (truths : Bool) → AreTurned b m k t → (truths ≡ false) ↔ Unchanged b (condition_in b m) (phase_in b m) k → (t.first || (truths || t.marks)) ≡ false
      → (has : Bool) → ((j : ℕ) → k ≡ suc j → has ≡ nat_lt 0 (length (status_in b m j))) → has ≡ nat_lt 0 (length (status_in b m k))
  status-stays zero t truths turned same off has was = absurd (let on : t.first ≡ true = turned.first in let none : t.first ≡ false = left-false t.first _ off in let w : ⊥ = cc in w)
  status-stays (suc j) t truths turned same off has was =
      let rest = right-false t.first _ off in
      let kept = same.0 (left-false truths _ rest) in
      was j refl ∙ ap (λ rows. nat_lt 0 (length rows)) (sym (status-kept b m (suc j) j (active-kept (suc j) j refl kept) (turned.cancelled j refl (right-false truths _ rest))))

  pub status-drawn : (k : ℕ) → status_of b (λ a. active_in b m a k) (λ a. cancelled_in b m a k) ≡ status_in b m k
  unfolding status_of status_in
  status-drawn k = refl

  -- ---- the flags

  pub flags-stay : (k : ℕ) (first : Bool) (was counts : FlagCounts) → first ≡ (k == 0) → AreCounts b m k counts → first ≡ false → counts ≡ was → (s : TrackedRows)
      → ((j : ℕ) → k ≡ suc j → FlagsStand b m j s.rows was) → Mends 14 (flag_rows_in b m k) s s
  flags-stay zero first was counts is now off same s before = absurd (let w : ⊥ = cc in w)
  flags-stay (suc j) first was counts is now off same s before =
      let stood = before j refl in
      let left : counts.left ≡ was.left = ap (λ (c : FlagCounts). c.left) same in
      let right : right_beyond (right_in b m (suc j)) ≡ right_beyond (right_in b m j) = sym now.right ∙ ap (λ (c : FlagCounts). c.right) same ∙ stood.counted.right in
      let more : has_more (left_in b m (suc j)) ≡ has_more (left_in b m j) = sym now.left.more ∙ ap (λ (c : LeftCount). c.more) left ∙ stood.counted.left.more in
      let beyond : overflow (left_in b m (suc j)) ≡ overflow (left_in b m j) = sym now.left.beyond ∙ ap (λ (c : LeftCount). c.beyond) left ∙ stood.counted.left.beyond in
      let status : nat_lt 0 (length (status_in b m (suc j))) ≡ nat_lt 0 (length (status_in b m j)) = sym now.status ∙ ap (λ (c : FlagCounts). c.status) same ∙ stood.counted.status in
      mends_kept 14 (flag_rows_in b m (suc j)) s (subst (λ rows. StandAt 14 rows s.rows) (sym (flags-same _ _ _ _ _ _ _ _ more beyond right status)) stood.zone)

  pub flags-drawn : (k n : ℕ) (counts : FlagCounts) (s t : TrackedRows) → AreCounts b m k counts → n ≡ from_bool counts.status
      → ((rows : List Row) → length rows ≡ n → Mends 14 (flags_row (flags counts.left.more counts.left.beyond counts.right rows) ∷ []) s t) → Mends 14 (flag_rows_in b m k) s t
  flags-drawn k n counts s t are is fills =
      subst (λ rows. Mends 14 rows s t) (flags-same _ _ _ _ _ _ _ _ are.left.more are.left.beyond are.right (some-told counts.status ∙ are.status))
      (fills (some_row counts.status) (some-long counts.status ∙ sym is))

  -- ---- the system display

  shown-stays : (k j : ℕ) → k ≡ suc j → (t : Turned) (c : Choice) (truths : Bool) → AreTurned b m k t → (truths ≡ false) ↔ Unchanged b (condition_in b m) (phase_in b m) k
      → shown_turned t c truths ≡ false → display_rows (display b m k) c ≡ display_rows (display b m j) c
  shown-stays k j next t Auto truths turned same off =
      let rest = right-false t.values _ off in
      called-page-kept b m k j (turned.values j next (left-false t.values _ off)) (turned.phase j next (right-false t.marks _ rest)) (shown-kept b m k j (turned.shown j next (left-false t.marks _ rest)))
  shown-stays k j next t (Page i) truths turned same off = one-page-kept b m k j (turned.values j next off) i
  shown-stays k j next t (Status q) truths turned same off =
      let kept = same.0 (left-false truths _ off) in
      status-page-kept b m k j q (status-kept b m k j (active-kept k j next kept) (turned.cancelled j next (right-false truths _ off)))

  pub display-stays : (k : ℕ) (t : Turned) (c : Choice) (chosen truths : Bool) → AreTurned b m k t → (truths ≡ false) ↔ Unchanged b (condition_in b m) (phase_in b m) k
      → (chosen ≡ false) ↔ IsKept (panel b m) (suc k) → c ≡ choice (panel b m) k → (t.first || (chosen || shown_turned t c truths)) ≡ false
      → (s : TrackedRows) → ((j : ℕ) → k ≡ suc j → StandAt 15 (display_rows_in b m j) s.rows) → Mends 15 (display_rows_in b m k) s s
  display-stays zero t c chosen truths turned same choose is off s was = absurd (let on : t.first ≡ true = turned.first in let none : t.first ≡ false = left-false t.first _ off in let w : ⊥ = cc in w)
  display-stays (suc j) t c chosen truths turned same choose is off s was =
      let rest = right-false t.first _ off in
      let held : choice (panel b m) (suc j) ≡ choice (panel b m) j = choose.0 (left-false chosen _ rest) in
      let shown : display_rows (display b m (suc j)) c ≡ display_rows (display b m j) c = shown-stays (suc j) j refl t c truths turned same (right-false chosen _ rest) in
      let zone : display_rows_in b m (suc j) ≡ display_rows_in b m j =
      ap (display_rows (display b m (suc j))) (sym is) ∙ shown ∙ ap (display_rows (display b m j)) (is ∙ held) in
      mends_kept 15 (display_rows_in b m (suc j)) s (subst (λ rows. StandAt 15 rows s.rows) (sym zone) (was j refl))

  -- a page by the display with these values is the page
  pub drawn-alike : (k : ℕ) (these : List (Option ℤ)) (page : Option ℕ) (s t : TrackedRows) → Mends 15 (page_rows (display_with b m k these) (option_and_then (slice_get b.pages) page)) s t
      → Mends 15 (page_rows (display b m k) (option_and_then (slice_get b.pages) page)) s t
  drawn-alike k these page s t = subst (λ rows. Mends 15 rows s t) (page-with b m k these (option_and_then (slice_get b.pages) page) (one-of-book b page))

  module _ (k : ℕ) (s t : TrackedRows) where
    pub auto-drawn : (first page : Option ℕ) → Auto ≡ choice (panel b m) k → first ≡ target (shown_in b m) (suc k)
        → ((d : Display) → d.pages ≡ b.pages → d.phase ≡ phase_in b m k → d.alert_page ≡ option_and_then (λ a. (alert_at b a).page) first → option_and_then (slice_get b.pages) page ≡ called_page d)
        → Mends 15 (page_rows (display b m k) (option_and_then (slice_get b.pages) page)) s t → Mends 15 (display_rows_in b m k) s t
    unfolding display_rows display target
    auto-drawn first page is begins called mends =
        subst (λ c. Mends 15 (display_rows (display b m k) c) s t) is
        (subst (λ o. Mends 15 (page_rows (display b m k) o) s t) (called (display b m k) refl refl (ap (option_and_then (λ a. (alert_at b a).page)) (sym begins))) mends)

    pub page-drawn : (i : ℕ) → Page i ≡ choice (panel b m) k → Mends 15 (page_rows (display b m k) (option_and_then (slice_get b.pages) (Some i))) s t → Mends 15 (display_rows_in b m k) s t
    unfolding display_rows display
    page-drawn i is mends = subst (λ c. Mends 15 (display_rows (display b m k) c) s t) is mends

    pub status-page-drawn : (q : ℕ) → Status q ≡ choice (panel b m) k → Mends 15 (status_page q (status_of b (λ a. active_in b m a k) (λ a. cancelled_in b m a k))) s t
        → Mends 15 (display_rows_in b m k) s t
    unfolding display_rows display
    status-page-drawn q is mends =
        subst (λ c. Mends 15 (display_rows (display b m k) c) s t) is (subst (λ rows. Mends 15 (status_page q rows) s t) (status-drawn k) mends)

  -- ---- the lights and the sound

  pub lamps-drawn : (k : ℕ) (warn caut : Bool) (heard : Sound) (s t : TrackedRows) → warn ≡ warns (attention b m) k → caut ≡ cautions (attention b m) k → heard ≡ sound (attention b m) k
      → Mends 33 (lamp_rows warn caut heard) s t → Mends 33 (lamp_rows_in b m k) s t
  lamps-drawn k warn caut heard s t w c h mends = rw (w, c, h) at mends

  pub lamps-stay : (k : ℕ) (first turned : Bool) → first ≡ (k == 0) → first ≡ false → turned ≡ false → (turned ≡ false) ↔ (lights_after (attention b m) (suc k) ≡ lights_after (attention b m) k) → (s : TrackedRows)
      → ((j : ℕ) → k ≡ suc j → StandAt 33 (lamp_rows_in b m j) s.rows) → Mends 33 (lamp_rows_in b m k) s s
  lamps-stay zero first turned is off dark same s was = absurd (let w : ⊥ = cc in w)
  lamps-stay (suc j) first turned is off dark same s was =
      let lights = same.0 dark in
      let w : warns (attention b m) (suc j) ≡ warns (attention b m) j = along lights (λ l. l.warn) in
      let c : cautions (attention b m) (suc j) ≡ cautions (attention b m) j = along lights (λ l. l.caut) in
      let h : sound (attention b m) (suc j) ≡ sound (attention b m) j = along lights (λ l. l.sound) in
      let zone : lamp_rows_in b m (suc j) ≡ lamp_rows_in b m j =
      ap (λ x. lamp_rows x (cautions (attention b m) (suc j)) (sound (attention b m) (suc j))) w
      ∙ ap (λ x. lamp_rows (warns (attention b m) j) x (sound (attention b m) (suc j))) c
      ∙ ap (lamp_rows (warns (attention b m) j) (cautions (attention b m) j)) h in
      mends_kept 33 (lamp_rows_in b m (suc j)) s (subst (λ rows. StandAt 33 rows s.rows) (sym zone) (was j refl))
