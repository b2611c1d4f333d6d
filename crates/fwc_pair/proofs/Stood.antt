-- What a lane that stands for its moments tells of an alert.
use Rattle.std.proofs.Common.{◌≡◌, ℕ, zero, suc, ◌-◌, ◌<◌, ◌==◌, Bool, true, false, not, ◌&&◌, List, length, get_or, Option, Some, None, refl, sym, ◌∙◌, ap, subst, cond, leb}
use Rattle.std.specs.Prelude.{find, is_some}
use Rattle.std.specs.List.{list_any}
use Rattle.ecam_spec.specs.declared.kinds.Standing.{Standing}
use Rattle.ecam_spec.specs.declared.kinds.Standing.TheVariants.{Dead, Quiet, Waiting, Cancelled, Cleared, Titled, Counted}
use Rattle.ecam_spec.specs.Past.{previous}
use Rattle.ecam_spec.specs.Book.{Book}
use Rattle.ecam_spec.specs.declared.kinds.Event.{Event}
use Rattle.ecam_spec.specs.History.{none_up, flags_after, Moment, era}
use Rattle.ecam_spec.specs.Alert as alert
use Rattle.ecam_spec.specs.Crew.{is_shown, shown, normal}
use Rattle.ecam_spec.specs.LeftZone.{title_row}
use Rattle.ecam_spec.specs.Standing.{Facts, standing_by_row, standing_by_primary, standing_of}
use Rattle.ecam_spec.specs.Situation.{primaries, inhibited, condition_in, present_knowing, present_in, active_knowing, active_in}
use Rattle.ecam_spec.specs.Screen.{order, cockpit, shown_in, is_shown_in, cleared_in, cancelled_in, line_stands, left_in}
use Rattle.ecam_spec.specs.Replay.{moment_of, standing_in, standing}
use Rattle.ecam_spec.proofs.CrewLaws.{shown_filter}
use Rattle.ecam_spec.proofs.OrderLaws.{order-below}
use Rattle.book_model.specs.Told.{flagged}
use Rattle.alert_truth.specs.Alerts.{starred_by_where}
use Rattle.alert_truth.proofs.Listings.{find-is_some}
use Rattle.warning_display.specs.LeftRows.{in_order, blocks}
use Rattle.warning_display.proofs.Passing.{filter_told}
use Rattle.fwc_lane.specs.LaneStands.{WholeStands, LaneStands}
use Rattle.fwc_lane.specs.declared.lane.Lane.{Lane}
use Rattle.fwc_pair.specs.TitlePlaces.{in_zone}
use Rattle.fwc_pair.specs.Standings.{TellsFacts}
use Rattle.fwc_pair.proofs.Titles.{title_left}
use Rattle.fwc_pair.proofs.Accounts.{standing-last}

-- an active alert's first active primary, if it has one
primary-if : (active any : Bool) (o : Option ℕ) → is_some o ≡ any → cond (active && any) o None ≡ cond active o None
primary-if false any o e = refl
primary-if true true o e = refl
primary-if true false None e = refl
primary-if true false (Some p) e = absurd (let w : ⊥ = cc in w)

module _ (b : Book) (m : ℕ → Moment) where
  -- what is so of alert a in moment j
  abbrev pub facts_in : ℕ → ℕ → Facts
  facts_in j a =
      record {
        present = present_in b m a j;
        active = active_in b m a j;
        shown = is_shown_in b m a j;
        starred_by = alert.starred_by (active_in b m) (primaries b a) j;
        cancelled = cancelled_in b m a j;
        cleared = cleared_in b m a j;
        title_row = title_row a (left_in b m j);
      }

  starred-by : (a j : ℕ) → starred_by_where b (active_in b m) a j ≡ cond (active_in b m a j) (alert.starred_by (active_in b m) (primaries b a) j) None
  unfolding alert.starred alert.starred_by
  starred-by a j =
      primary-if (active_in b m a j) (list_any (λ p. active_in b m p j) (primaries b a)) (find (λ p. active_in b m p j) (primaries b a))
      (find-is_some (λ p. active_in b m p j) (primaries b a))

  module _ (j : ℕ) (l : Lane) (stands : WholeStands b m (suc j) l) where
    present-told : (a : ℕ) → a < length b.alerts → get_or l.truths.present.items a false ≡ present_in b m a j
    unfolding previous present_in present_knowing condition_in
    present-told a within = (stands.truths.each a within).present

    active-told : (a : ℕ) → a < length b.alerts → get_or l.truths.active.items a false ≡ active_in b m a j
    unfolding previous active_in active_knowing present_knowing inhibited condition_in
    active-told a within = (stands.truths.each a within).active

    primary-told : (a : ℕ) → a < length b.alerts → get_or l.truths.stars.primaries.items a None ≡ starred_by_where b (active_in b m) a j
    unfolding active_in active_knowing present_knowing inhibited condition_in
    primary-told a within = stands.truths.stars.primaries a within

    shown-told : (a : ℕ) → a < length b.alerts → get_or l.marks.sets.shown a false ≡ is_shown_in b m a j
    unfolding previous is_shown_in shown_in
    shown-told a within = (stands.marks.marks a within).shown

    cancelled-told : (a : ℕ) → a < length b.alerts → get_or l.marks.sets.cancelled a false ≡ cancelled_in b m a j
    unfolding previous cancelled_in shown_in
    cancelled-told a within = (stands.marks.marks a within).cancelled

    cleared-told : (a : ℕ) → a < length b.alerts → get_or l.marks.sets.cleared a false ≡ cleared_in b m a j
    unfolding previous cleared_in shown_in
    cleared-told a within = (stands.marks.marks a within).cleared

    -- the flags tell which alerts are shown, in order
    order-told : shown_in b m j ≡ in_order b (flagged l.marks.sets.shown)
    unfolding shown_in is_shown_in cockpit
    order-told =
        shown_filter (cockpit b m) j
        ∙ filter_told (length b.alerts) (λ a. is_shown (cockpit b m) (shown (cockpit b m)) a j) (λ a. get_or l.marks.sets.shown a false) (λ a within. sym (shown-told a within)) (order b) (order-below b)

    title-told : (a : ℕ) → title_row a (left_in b m j) ≡ title_row a (blocks b (line_stands b m j) (in_order b (flagged l.marks.sets.shown)))
    unfolding left_in
    title-told a =
        title_left a (blocks b (line_stands b m j) (shown_in b m j)) (normal (cockpit b m) j) _
        ∙ ap (λ xs. title_row a (blocks b (line_stands b m j) xs)) order-told

    pub facts-told : (a : ℕ) → a < length b.alerts → TellsFacts b l a (facts_in j a)
    facts-told a within = record {
      present = present-told a within;
      active = active-told a within;
      shown = shown-told a within;
      starred_by = primary-told a within ∙ starred-by a j;
      cancelled = cancelled-told a within;
      cleared = cleared-told a within;
      stands = line_stands b m j;
      told = stands.lines j refl;
      title = title-told a;
    }

    pub stands-in : (a : ℕ) → standing_in b m j a ≡ standing_of (facts_in j a)
    unfolding standing_in
    stands-in a = refl

  -- before its first moment no alert is present
  pub none-told : (l : Lane) → WholeStands b m 0 l → (a : ℕ) → a < length b.alerts → get_or l.truths.present.items a false ≡ false
  unfolding previous
  none-told l stands a within = (stands.truths.each a within).present

-- ---- the standing, test by test

-- a row among the first seven, or a count
abbrev pub by_place : Option ℕ → Standing
by_place None = Counted
by_place (Some r) = Titled r

by-zone : (t : Bool) (r : ℕ) → by_place (cond t (Some r) None) ≡ cond t (Titled r) Counted
by-zone true r = refl
by-zone false r = refl

placed : (o : Option ℕ) → by_place (in_zone o) ≡ standing_by_row o
placed None = refl
placed (Some r) = by-zone (leb r 7) r

-- the tests in their order
abbrev pub tests : (present waits : Bool) (primary : Option ℕ) (cancelled cleared : Bool) (row : Option ℕ) → Standing
tests present waits primary cancelled cleared row =
    cond (not present) Quiet
    (cond waits Waiting
    (standing_by_primary primary (cond cancelled Cancelled (cond cleared Cleared (by_place row)))))

pub standing-told : (b : Book) (l : Lane) (a : ℕ) (f : Facts) (present waits cancelled cleared : Bool) (primary row : Option ℕ) → TellsFacts b l a f
    → present ≡ get_or l.truths.present.items a false → waits ≡ (not (get_or l.truths.active.items a false) && not (get_or l.marks.sets.shown a false))
    → primary ≡ get_or l.truths.stars.primaries.items a None → cancelled ≡ get_or l.marks.sets.cancelled a false → cleared ≡ get_or l.marks.sets.cleared a false
    → row ≡ in_zone f.title_row → tests present waits primary cancelled cleared row ≡ standing_of f
unfolding standing_of
standing-told b l a f present waits cancelled cleared primary row told p w o x c r =
    ap (λ t. tests t waits primary cancelled cleared row) (p ∙ told.present)
    ∙ ap (λ t. tests f.present t primary cancelled cleared row) w
    ∙ ap (λ t. tests f.present (not t && not (get_or l.marks.sets.shown a false)) primary cancelled cleared row) told.active
    ∙ ap (λ t. tests f.present (not f.active && not t) primary cancelled cleared row) told.shown
    ∙ ap (λ t. tests f.present (not f.active && not f.shown) t cancelled cleared row) (o ∙ told.starred_by)
    ∙ ap (λ t. tests f.present (not f.active && not f.shown) (cond f.active f.starred_by None) t cleared row) (x ∙ told.cancelled)
    ∙ ap (λ t. tests f.present (not f.active && not f.shown) (cond f.active f.starred_by None) f.cancelled t row) (c ∙ told.cleared)
    ∙ ap (λ t. tests f.present (not f.active && not f.shown) (cond f.active f.starred_by None) f.cancelled f.cleared t) r
    ∙ ap (λ t. cond (not f.present) Quiet (cond (not f.active && not f.shown) Waiting (standing_by_primary (cond f.active f.starred_by None) (cond f.cancelled Cancelled (cond f.cleared Cleared t))))) (placed f.title_row)

-- the title's row, by the rows of the shown alerts
pub title-by : (b : Book) (l : Lane) (a : ℕ) (f : Facts) (row : Option ℕ) → (told : TellsFacts b l a f)
    → row ≡ in_zone (title_row a (blocks b told.stands (in_order b (flagged l.marks.sets.shown)))) → row ≡ in_zone f.title_row
title-by b l a f row told is = is ∙ ap in_zone (sym told.title)

-- ---- after a history

by-moments : (b : Book) (h : List Event) (l : Lane) (a : ℕ) (s : Standing) (n : ℕ) → length (era h).moments ≡ n → none_up (flags_after h) ≡ false → LaneStands b (era h) l → a < length b.alerts
    → ((f : Facts) → TellsFacts b l a f → s ≡ standing_of f) → (get_or l.truths.present.items a false ≡ false → s ≡ Quiet) → s ≡ standing b h a
unfolding standing
by-moments b h l a s zero long up stands within told quiet =
    let whole = subst (λ n. WholeStands b (moment_of (era h)) n l) long (stands.whole (moment_of (era h)) (λ i w. refl)) in
    quiet (none-told b (moment_of (era h)) l whole a within)
    ∙ sym
    (ap (λ t. cond t Dead (cond (length (era h).moments == 0) Quiet (standing_in b (moment_of (era h)) (length (era h).moments - 1) a))) up
    ∙ ap (λ i. cond (i == 0) Quiet (standing_in b (moment_of (era h)) (i - 1) a)) long)
by-moments b h l a s (suc j) long up stands within told quiet =
    let whole = subst (λ n. WholeStands b (moment_of (era h)) n l) long (stands.whole (moment_of (era h)) (λ i w. refl)) in
    told (facts_in b (moment_of (era h)) j a) (facts-told b (moment_of (era h)) j l whole a within)
    ∙ sym (stands-in b (moment_of (era h)) j l whole a)
    ∙ sym (standing-last b h j a (record { up = up; count = long }))

pub standing-by : (b : Book) (h : List Event) (l : Lane) (a : ℕ) (s : Standing) → none_up (flags_after h) ≡ false → LaneStands b (era h) l → a < length b.alerts
    → ((f : Facts) → TellsFacts b l a f → s ≡ standing_of f) → (get_or l.truths.present.items a false ≡ false → s ≡ Quiet) → s ≡ standing b h a
standing-by b h l a s up stands within told quiet = by-moments b h l a s (length (era h).moments) refl up stands within told quiet

pub dead-standing : (b : Book) (h : List Event) (a : ℕ) → none_up (flags_after h) ≡ true → Dead ≡ standing b h a
unfolding standing
dead-standing b h a down = sym (ap (λ t. cond t Dead (cond (length (era h).moments == 0) Quiet (standing_in b (moment_of (era h)) (length (era h).moments - 1) a))) down)
