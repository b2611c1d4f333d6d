-- Each row of each picture of a sound draft's book is proper.
use Rattle.std.proofs.Common.{ℕ, zero, suc, ◌+◌, ◌-◌, ◌<◌, ◌≤◌, Bool, true, false, ◌&&◌, not, List, [], ◌∷◌, ◌++◌, map, length, filter, All, sym, subst, arith}
use Rattle.std.specs.Prelude.{codes, if◌then◌else◌}
use Rattle.std.proofs.lemmas.List.Elements.{All-nil, All-cons, All-append, All-map, All-filter, All-weaker, All-get_or, All-replicate}
use Rattle.ecam_spec.specs.declared.kinds.Event.{Event}
use Rattle.ecam_spec.specs.declared.kinds.Colour.TheVariants.{Amber}
use Rattle.ecam_spec.specs.Book.{Line, StatusLine, Memo}
use Rattle.ecam_spec.specs.Draft.{Draft, book_of, resolved, alert_names}
use Rattle.ecam_spec.specs.KeepsLimits.{IsSoundLine, IsSoundStatus, IsSoundAlert, IsSoundMemo, IsSoundRow, IsSoundPage, IsSound, row_text_limit}
use Rattle.ecam_spec.specs.Picture.{row, blank_row, blank, dead}
use Rattle.ecam_spec.specs.ProperRows.{IsProper}
use Rattle.ecam_spec.specs.History.{Moment, none_up, flags_after, era}
use Rattle.ecam_spec.specs.Term.{holds}
use Rattle.ecam_spec.specs.Crew.{is_shown, shown, normal}
use Rattle.ecam_spec.specs.LeftZone.{left_zone, has_more, overflow}
use Rattle.ecam_spec.specs.RightZone.{right_zone, right_beyond}
use Rattle.ecam_spec.specs.StatusPage.{flags, flags_row}
use Rattle.ecam_spec.specs.Selection.{choice}
use Rattle.ecam_spec.specs.SystemDisplay.{display_rows}
use Rattle.ecam_spec.specs.Lamps.{warns, cautions, sound}
use Rattle.ecam_spec.specs.LampRows.{lamp_rows}
use Rattle.ecam_spec.specs.Situation.{alert_at, no_alert, world, active_in}
use Rattle.ecam_spec.specs.Screen.{alert_numbers, order, cockpit, shown_in, cancelled_in, line_stands, memo_rows, left_in, starred_systems, right_in, status_in, display, panel, attention, picture_in}
use Rattle.ecam_spec.specs.Replay.{moment_of, picture_at, picture, last_picture, through, tick_count}
use Rattle.ecam_spec.specs.Output.{picture_before}
use Rattle.ecam_spec.proofs.CrewLaws.{shown_filter}
use Rattle.ecam_spec.proofs.OrderLaws.{below-below, order-below}
use Rattle.ecam_spec.proofs.ProperRows.{proper-text, proper-blank, text-some, zone-proper, IsShownAlert, IsShownMemo, IsShownRow, IsShownPage, left-proper, right-proper, status-proper, display-proper, flags-proper, lamps-proper}

dead-proper : All IsProper dead
unfolding dead
dead-proper = zone-proper 36 (row Amber (codes "FWS FWC 1+2 FAULT") ∷ []) (All-cons IsProper (row Amber (codes "FWS FWC 1+2 FAULT")) [] (proper-text Amber (codes "FWS FWC 1+2 FAULT") (λ e. cc) (omega arith)) (All-nil IsProper))

blank-proper : All IsProper blank
unfolding blank
blank-proper = All-replicate IsProper 36 blank_row proper-blank

module _ (d : Draft) (sound_draft : IsSound d) where
  alerts-shown : All IsShownAlert (book_of d).alerts
  unfolding book_of
  alerts-shown =
      let params = length d.parameters in
      let alerts = length d.alerts in
      All-map IsShownAlert (resolved (alert_names d.alerts)) d.alerts
      (All-weaker (IsSoundAlert params alerts (length d.systems) (length d.pages)) (λ x. IsShownAlert (resolved (alert_names d.alerts) x))
      (λ x is. record {
        title = text-some 36 x.title is.title;
        lines = All-weaker (IsSoundLine params alerts) (λ (l : Line). IsProper (row l.colour l.text)) (λ l one. proper-text l.colour l.text one.colour (text-some 36 l.text one.text)) x.lines is.lines;
        status = All-weaker IsSoundStatus (λ (s : StatusLine). 1 ≤ length s.text) (λ s one. text-some 36 s.text one.text) x.status is.status;
      }) d.alerts sound_draft.alerts)

  memos-shown : All IsShownMemo (book_of d).memos
  unfolding book_of
  memos-shown =
      All-weaker (IsSoundMemo (length d.parameters) (length d.alerts)) IsShownMemo
      (λ m is. proper-text m.colour m.text is.colour (text-some 36 m.text is.text)) d.memos sound_draft.memos

  pages-shown : All IsShownPage (book_of d).pages
  unfolding book_of
  pages-shown =
      let params = length d.parameters in
      All-weaker (IsSoundPage params) IsShownPage
      (λ p is. record {
        title = text-some 36 p.title is.title;
        rows = All-weaker (IsSoundRow params) IsShownRow (λ r one. record { text = text-some (row_text_limit r.show) r.text one.text; colour = one.colour }) p.rows is.rows;
      }) d.pages sound_draft.pages

  each-shown : (xs : List ℕ) → All (λ a. a < length (book_of d).alerts) xs → All (λ a. IsShownAlert (alert_at (book_of d) a)) xs
  each-shown xs all =
      All-weaker (λ a. a < length (book_of d).alerts) (λ a. IsShownAlert (alert_at (book_of d) a))
      (λ a h. All-get_or IsShownAlert (book_of d).alerts a no_alert h alerts-shown) xs all

  module _ (m : ℕ → Moment) (k : ℕ) where
    shown-below : All (λ a. a < length (book_of d).alerts) (shown_in (book_of d) m k)
    unfolding shown_in cockpit
    shown-below =
        let b = book_of d in
        subst (All (λ a. a < length b.alerts)) (sym (shown_filter (cockpit b m) k))
        (All-filter (λ a. is_shown (cockpit b m) (shown (cockpit b m)) a k) (λ a. a < length b.alerts) (order b) (order-below b))

    memos-proper : (zone : Memo → Bool) → All IsProper (memo_rows (book_of d) m zone k)
    unfolding memo_rows
    memos-proper zone =
        let test = λ (x : Memo). zone x && holds (world (book_of d) m) x.when k in
        All-map IsProper (λ (x : Memo). row x.colour x.text) (filter test (book_of d).memos) (All-filter test IsShownMemo (book_of d).memos memos-shown)

    left-in-proper : All IsProper (left_zone (left_in (book_of d) m k))
    unfolding left_in
    left-in-proper =
        let b = book_of d in
        left-proper (line_stands b m k) (alert_at b) (shown_in b m k) (normal (cockpit b m) k) (memo_rows b m (λ (x : Memo). x.left) k)
        (each-shown (shown_in b m k) shown-below) (memos-proper (λ (x : Memo). x.left))

    right-in-proper : All IsProper (right_zone (right_in (book_of d) m k))
    unfolding right_in
    right-in-proper =
        let b = book_of d in
        right-proper (starred_systems b m k) (memo_rows b m (λ (x : Memo). not x.left) k) (memos-proper (λ (x : Memo). not x.left))

    status-in-proper : All IsProper (status_in (book_of d) m k)
    unfolding status_in
    status-in-proper =
        let b = book_of d in
        let there = λ (a : ℕ). a < length b.alerts in
        let active = filter (λ a. active_in b m a k) (alert_numbers b) in
        let active-there = All-filter (λ a. active_in b m a k) there (alert_numbers b) (below-below (length b.alerts)) in
        let cancelled = filter (λ a. cancelled_in b m a k) active in
        let cancelled-there = All-filter (λ a. cancelled_in b m a k) there active active-there in
        status-proper (map (alert_at b) active) (map (alert_at b) cancelled)
        (All-map IsShownAlert (alert_at b) active (each-shown active active-there))
        (All-map IsShownAlert (alert_at b) cancelled (each-shown cancelled cancelled-there))

    display-in-proper : All IsProper (display_rows (display (book_of d) m k) (choice (panel (book_of d) m) k))
    unfolding display
    display-in-proper = display-proper (display (book_of d) m k) (choice (panel (book_of d) m) k) pages-shown status-in-proper

    pub picture-in-proper : All IsProper (picture_in (book_of d) m k)
    unfolding picture_in
    picture-in-proper =
        let b = book_of d in
        let left = left_zone (left_in b m k) in
        let right = right_zone (right_in b m k) in
        let over = flags_row (flags (has_more (left_in b m k)) (overflow (left_in b m k)) (right_beyond (right_in b m k)) (status_in b m k)) in
        let system = display_rows (display b m k) (choice (panel b m) k) in
        let lamps = lamp_rows (warns (attention b m) k) (cautions (attention b m) k) (sound (attention b m) k) in
        All-append IsProper (left ++ right ++ over ∷ [] ++ system) lamps
        (All-append IsProper (left ++ right ++ over ∷ []) system
        (All-append IsProper (left ++ right) (over ∷ []) (All-append IsProper left right left-in-proper right-in-proper)
        (All-cons IsProper over [] (flags-proper (has_more (left_in b m k)) (overflow (left_in b m k)) (right_beyond (right_in b m k)) (status_in b m k)) (All-nil IsProper)))
        display-in-proper)
        (lamps-proper (warns (attention b m) k) (cautions (attention b m) k) (sound (attention b m) k))

  pub picture-at-proper : (h : List Event) → All IsProper (picture_at (book_of d) h)
  unfolding picture_at
  picture-at-proper h =
      elim (none_up (flags_after h)) as (λ b. All IsProper (if b then dead else picture_in (book_of d) (moment_of (era h)) (length (era h).moments - 1))) [
        | true ↦ dead-proper
        | false ↦ picture-in-proper (moment_of (era h)) (length (era h).moments - 1)
      ]

  before-proper : (h : List Event) (n : ℕ) → All IsProper (picture_before (picture (book_of d) h) n)
  unfolding picture
  before-proper h zero = blank-proper
  before-proper h (suc t) = picture-at-proper (through (t + 1) h)

  pub last-picture-proper : (h : List Event) → All IsProper (last_picture (book_of d) h)
  unfolding last_picture
  last-picture-proper h = before-proper h (tick_count h)
