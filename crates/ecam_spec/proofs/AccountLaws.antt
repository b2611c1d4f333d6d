-- Each active or recalled alert is accounted for: starred, cancelled, cleared, titled, or counted by OVF.
use Rattle.std.proofs.Common.{◌≡◌, ℕ, ◌+◌, ◌-◌, ◌<◌, ◌≤◌, Bool, true, false, not, ◌&&◌, ◌||◌, ◌==◌, List, [], ◌∷◌, ◌++◌, map, length, get_or, replicate, Some, None, refl, sym, ◌∙◌, ap, subst, cond, ltb, leb, min, arith}
use Rattle.std.specs.Prelude.{find, count_by, is_some, option_map}
use Rattle.std.specs.List.{list_any, position_or_len}
use Rattle.std.proofs.lemmas.Bool.Decides.{nat_tests}
use Rattle.std.proofs.lemmas.List.{get_or_append_left, length-append, length-take}
use Rattle.std.proofs.lemmas.Bool.{and_parts, not-true}
use Rattle.std.proofs.Math.Bool.{and-true}
use Rattle.ecam_spec.specs.declared.kinds.Standing.TheVariants.{Titled}
use Rattle.ecam_spec.specs.Book.{Book, Memo}
use Rattle.ecam_spec.specs.Picture.{Row, row, blank_row, zone}
use Rattle.ecam_spec.specs.History.{Moment}
use Rattle.ecam_spec.specs.Alert.{waiting, starred, starred_by, up}
use Rattle.ecam_spec.specs.Crew.{is_alert, is_shown, shown, normal}
use Rattle.ecam_spec.specs.LeftZone.{LeftRow, title_colour, overflow, title_row, left_zone}
use Rattle.ecam_spec.specs.Standing.{Facts, accounts, has_row, is_counted}
use Rattle.ecam_spec.specs.Situation.{alert_at, primaries, inhibited, known_below, present_knowing, present_in, active_knowing, active_in, waiting_in, starred_in, up_in}
use Rattle.ecam_spec.specs.Screen.{alert_numbers, order, cockpit, shown_in, cleared_in, cancelled_in, recalled_in, is_shown_in, line_stands, memo_rows, left_in, picture_in}
use Rattle.ecam_spec.specs.Replay.{standing_in}
use Rattle.ecam_spec.proofs.AlertLaws.{active_present}
use Rattle.ecam_spec.proofs.CrewLaws.{cleared_up, recalled_waiting, shown_filter, listed_shown}
use Rattle.ecam_spec.proofs.StandingLaws.{Tied, accounts-where, recalled-has_row, titled-row, beyond-of, counted-beyond}
use Rattle.ecam_spec.proofs.ListLaws.{mem, distinct, distinct-filter, count_by-agree, count_by-filter}
use Rattle.ecam_spec.proofs.OrderLaws.{distinct-order, count-order}
use Rattle.ecam_spec.proofs.LeftLaws.{titled_where_shown, title_stands, title_in_zone}
use Rattle.ecam_spec.proofs.OverflowLaws.{stands_beyond, overflow_counts}

is_some-find : (p : ℕ → Bool) (xs : List ℕ) → is_some (find p xs) ≡ list_any p xs
is_some-find p [] = refl
is_some-find p (x ∷ xs) = elim (p x) as (λ b. is_some (cond b (Some x) (find p xs)) ≡ (b || list_any p xs)) [ true ↦ refl | false ↦ is_some-find p xs ]

-- a title beyond the seventh row, by its row
not-leb : (n : ℕ) → not (leb (n + 1) 7) ≡ leb 7 n
not-leb n = grind (arith, nat_tests)

beyond-cond : (b : Bool) (n : ℕ) → beyond-of (option_map (λ i. i + 1) (cond b (Some n) None)) ≡ (b && leb 7 n)
beyond-cond true n = not-leb n
beyond-cond false n = refl

some-map-cond : (b : Bool) (n : ℕ) → is_some (option_map (λ (i : ℕ). i + 1) (cond b (Some n) None)) ≡ b
some-map-cond true n = refl
some-map-cond false n = refl

beyond-row : (rows : List LeftRow) (a : ℕ) → beyond-of (title_row a rows) ≡ (is_some (title_row a rows) && stands_beyond rows a)
unfolding title_row
beyond-row rows a =
    let p : LeftRow → Bool = λ r. is_alert a r.title_of in
    beyond-cond (ltb (position_or_len p rows) (length rows)) (position_or_len p rows)
    ∙ ap (λ b. b && leb 7 (position_or_len p rows)) (sym (some-map-cond (ltb (position_or_len p rows) (length rows)) (position_or_len p rows)))

zone-length : (rows : List Row) → length (zone 7 rows) ≡ 7
unfolding zone
zone-length rows =
    length-take 7 (rows ++ replicate 7 blank_row) ∙ ap (min 7) (length-append rows (replicate 7 blank_row)) ∙ omega arith

-- the first rows of a picture are those of its first zone
first-zone : (xs as' bs cs ds : List Row) (i : ℕ) → i < length xs → get_or ((((xs ++ as') ++ bs) ++ cs) ++ ds) i blank_row ≡ get_or xs i blank_row
first-zone xs as' bs cs ds i h =
    let two : length (xs ++ as') ≡ length xs + length as' = length-append xs as' in
    let three : length ((xs ++ as') ++ bs) ≡ length (xs ++ as') + length bs = length-append (xs ++ as') bs in
    let four : length (((xs ++ as') ++ bs) ++ cs) ≡ length ((xs ++ as') ++ bs) + length cs = length-append ((xs ++ as') ++ bs) cs in
    get_or_append_left (((xs ++ as') ++ bs) ++ cs) ds blank_row i (omega arith)
    ∙ get_or_append_left ((xs ++ as') ++ bs) cs blank_row i (omega arith)
    ∙ get_or_append_left (xs ++ as') bs blank_row i (omega arith)
    ∙ get_or_append_left xs as' blank_row i h

module _ (b : Book) (moments : ℕ → Moment) where
  active-present : (a k : ℕ) → active_in b moments a k ≡ true → present_in b moments a k ≡ true
  unfolding active_in active_knowing present_in
  active-present a k h = active_present (inhibited b moments a) (present_knowing b moments (known_below b moments a) a) k h

  up-active : (a k : ℕ) → up_in b moments a k ≡ true → active_in b moments a k ≡ true
  unfolding up_in up
  up-active a k h = (and_parts (active_in b moments a k) (not (starred_in b moments a k)) h).0

  pub cleared-active : (a k : ℕ) → cleared_in b moments a k ≡ true → active_in b moments a k ≡ true
  unfolding cleared_in cockpit
  cleared-active a k h = up-active a k (cleared_up (cockpit b moments) (shown_in b moments) a k h)

  recalled-waits : (a k : ℕ) → recalled_in b moments a k ≡ true → (present_in b moments a k ≡ true) × (active_in b moments a k ≡ false)
  unfolding recalled_in cockpit waiting_in waiting
  recalled-waits a k h =
      let waits = recalled_waiting (cockpit b moments) (shown_in b moments) a k h in (
        (and_parts (present_in b moments a k) (not (active_in b moments a k)) waits).0,
        not-true (active_in b moments a k) ((and_parts (present_in b moments a k) (not (active_in b moments a k)) waits).1),
      )

  up-is : (a k : ℕ) → up_in b moments a k ≡ (active_in b moments a k && not (active_in b moments a k && is_some (starred_by (active_in b moments) (primaries b a) k)))
  unfolding up_in up starred_in starred starred_by
  up-is a k =
      ap (λ o. active_in b moments a k && not (active_in b moments a k && o)) (sym (is_some-find (λ p. active_in b moments p k) (primaries b a)))

  shown-is : (a k : ℕ) → is_shown_in b moments a k ≡ (not (cancelled_in b moments a k) && ((up_in b moments a k && not (cleared_in b moments a k)) || recalled_in b moments a k))
  unfolding is_shown_in is_shown cancelled_in cleared_in recalled_in cockpit
  shown-is a k = refl

  -- what is so of alert a in moment k
  abbrev facts-in : ℕ → ℕ → Facts
  facts-in a k =
      record {
        present = present_in b moments a k;
        active = active_in b moments a k;
        shown = is_shown_in b moments a k;
        starred_by = starred_by (active_in b moments) (primaries b a) k;
        cancelled = cancelled_in b moments a k;
        cleared = cleared_in b moments a k;
        title_row = title_row a (left_in b moments k);
      }

  tied : (a k : ℕ) → Tied (facts-in a k) (recalled_in b moments a k)
  tied a k =
      record {
        active = active-present a k;
        cleared = cleared-active a k;
        recalled_waits = recalled-waits a k;
        shown = shown-is a k ∙ ap (λ u. not (cancelled_in b moments a k) && ((u && not (cleared_in b moments a k)) || recalled_in b moments a k)) (up-is a k);
      }

  -- an alert has one of the five standings exactly where it is active, or recalled and not cancelled
  pub accounted : (a k : ℕ) → accounts (standing_in b moments k a) ≡ (active_in b moments a k || (recalled_in b moments a k && not (cancelled_in b moments a k)))
  unfolding standing_in
  accounted a k = accounts-where (facts-in a k) (recalled_in b moments a k) (tied a k)

  -- a recalled alert that isn't cancelled is titled or counted
  pub recalled_listed : (a k : ℕ) → recalled_in b moments a k ≡ true → cancelled_in b moments a k ≡ false → has_row (standing_in b moments k a) ≡ true
  unfolding standing_in
  recalled_listed a k h free = recalled-has_row (facts-in a k) (subst (Tied (facts-in a k)) h (tied a k)) free

  -- a row of the picture that is an alert's
  pub titled_stands : (a k r : ℕ) → standing_in b moments k a ≡ Titled r → (1 ≤ r) × (r ≤ 7) × (get_or (picture_in b moments k) (r - 1) blank_row ≡ row (title_colour (alert_at b a).level) (alert_at b a).title)
  unfolding standing_in left_in picture_in left_zone
  titled_stands a k r h =
      let t = titled-row (facts-in a k) r h in
      let stood = title_stands (line_stands b moments k) (alert_at b) a r (shown_in b moments k) (normal (cockpit b moments) k) (memo_rows b moments (λ (m : Memo). m.left) k) t.0 in
      let first : 1 ≤ r = stood.0 in
      let last : r ≤ 7 = t.1 in
      let zone_rows = left_zone (left_in b moments k) in
      let long : length zone_rows ≡ 7 = zone-length (map (λ (x : LeftRow). x.row) (left_in b moments k)) in (
        first,
        last,
        first-zone zone_rows _ _ _ _ (r - 1) (omega arith)
            ∙ title_in_zone (line_stands b moments k) (alert_at b) a r (shown_in b moments k) (normal (cockpit b moments) k) (memo_rows b moments (λ (m : Memo). m.left) k) t.0 last,
      )

  distinct-shown : (k : ℕ) → distinct (shown_in b moments k) ≡ true
  unfolding shown_in cockpit
  distinct-shown k =
      ap distinct (shown_filter (cockpit b moments) k)
      ∙ distinct-filter (λ a. is_shown (cockpit b moments) (shown (cockpit b moments)) a k) (order b) (distinct-order b)

  -- an alert of the order is counted where it is shown and its title stands beyond the seventh row
  counted-shown : (a k : ℕ) → mem a (order b) ≡ true → is_counted (standing_in b moments k a) ≡ (is_shown_in b moments a k && stands_beyond (left_in b moments k) a)
  unfolding standing_in left_in shown_in cockpit is_shown_in
  counted-shown a k among =
      let rows = left_in b moments k in
      let listed : is_some (title_row a rows) ≡ is_shown_in b moments a k =
      titled_where_shown (line_stands b moments k) (alert_at b) a (shown_in b moments k) (normal (cockpit b moments) k) (memo_rows b moments (λ (m : Memo). m.left) k)
      ∙ listed_shown (cockpit b moments) a k ∙ ap (λ m. is_shown_in b moments a k && m) among ∙ and-true (is_shown_in b moments a k) in
      counted-beyond (facts-in a k) (recalled_in b moments a k) (tied a k) listed
      ∙ beyond-row rows a
      ∙ ap (λ o. o && stands_beyond rows a) listed

  -- the alerts that are counted are as many as OVF says
  pub counted_is_overflow : (k : ℕ) → count_by (λ a. is_counted (standing_in b moments k a)) (alert_numbers b) ≡ overflow (left_in b moments k)
  unfolding left_in shown_in cockpit is_shown_in
  counted_is_overflow k =
      let rows = left_in b moments k in
      sym (count-order b (λ a. is_counted (standing_in b moments k a)))
      ∙ count_by-agree (λ a. is_counted (standing_in b moments k a)) (λ a. is_shown_in b moments a k && stands_beyond rows a) (order b) (λ a h. counted-shown a k h)
      ∙ sym (count_by-filter (stands_beyond rows) (λ a. is_shown_in b moments a k) (order b))
      ∙ ap (count_by (stands_beyond rows)) (sym (shown_filter (cockpit b moments) k))
      ∙ sym (overflow_counts (line_stands b moments k) (alert_at b) (shown_in b moments k) (normal (cockpit b moments) k) (memo_rows b moments (λ (m : Memo). m.left) k) (distinct-shown k))

  -- an alert's title is among the rows of the left zone exactly where the alert is shown
  pub titled_where_listed : (a k : ℕ) → is_some (title_row a (left_in b moments k)) ≡ list_any (λ i. a == i) (shown_in b moments k)
  unfolding left_in
  titled_where_listed a k =
      titled_where_shown (line_stands b moments k) (alert_at b) a (shown_in b moments k) (normal (cockpit b moments) k) (memo_rows b moments (λ (m : Memo). m.left) k)
