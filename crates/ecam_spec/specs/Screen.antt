-- What the displays show in each moment of an era, for a book. It only ties the definitions of the crew's
-- actions, the zones, the selection and the lamps together.
use Rattle.std.specs.Prelude.{ℕ, ◌+◌, Bool, false, not, ◌&&◌, ◌==◌, List, [], ◌∷◌, ◌++◌, map, length, get_or, filter, flat_map, Option, Some, None}
use Rattle.std.specs.List.{list_any}
use Rattle.std.specs.Option.{option_and_then}
use Rattle.ecam_spec.specs.declared.kinds.Key.TheVariants.{Clr, Rcl, Sts, All, Emer, Mw, Mc, Page}
use Rattle.ecam_spec.specs.declared.kinds.Level.{Level}
use Rattle.ecam_spec.specs.Past.{Signal, previous}
use Rattle.ecam_spec.specs.Places.{below, first_place, first_in}
use Rattle.ecam_spec.specs.Levels.{is_three, is_two, is_one, is_caution_level}
use Rattle.ecam_spec.specs.Book.{Line, Memo, Book}
use Rattle.ecam_spec.specs.Term.{holds}
use Rattle.ecam_spec.specs.History.{Moment}
use Rattle.ecam_spec.specs.Keys.{pressed, held}
use Rattle.ecam_spec.specs.Picture.{Row, row, Picture}
use Rattle.ecam_spec.specs.Crew.{Cockpit, target, cleared, cancelled, recalled, is_shown, shown, normal}
use Rattle.ecam_spec.specs.LeftZone.{LeftRow, alert_rows, left_rows, left_zone, has_more, overflow}
use Rattle.ecam_spec.specs.RightZone.{right_rows, right_zone, right_beyond}
use Rattle.ecam_spec.specs.StatusPage.{status_rows, flags, flags_row}
use Rattle.ecam_spec.specs.Selection.{Panel, choice}
use Rattle.ecam_spec.specs.SystemDisplay.{Display, display_rows}
use Rattle.ecam_spec.specs.Lamps.{Attention, warns, cautions, sound}
use Rattle.ecam_spec.specs.LampRows.{lamp_rows}
use Rattle.ecam_spec.specs.Situation.{parameter_at, alert_at, strokes_in, value_in, phase_in, world, active_in, waiting_in, starred_in, up_in}

module _ (b : Book) where
  abbrev pub alert_numbers : List ℕ
  alert_numbers = below (length b.alerts)

  abbrev pub of_level : (Level → Bool) → List ℕ
  of_level test = filter (λ a. test (alert_at b a).level) alert_numbers

  -- the alerts in their order: level 3, then 2, then 1, and within a level as in the book
  unfoldable pub order : List ℕ
  order = of_level is_three ++ of_level is_two ++ of_level is_one

module _ (b : Book) (moments : ℕ → Moment) where
  -- the phase is 1, and wasn't in the moment before, which has to be there
  unfoldable pub enters_one : Signal
  enters_one k = phase_in b moments k == 1 && previous (λ i. not (phase_in b moments i == 1)) k

  unfoldable pub cockpit : Cockpit
  cockpit =
      let key = pressed (strokes_in b moments) in
      record {
        order = order b;
        is_caution = λ a. is_caution_level (alert_at b a).level;
        up = up_in b moments;
        waiting = waiting_in b moments;
        clr = key Clr;
        rcl = key Rcl;
        emer = key Emer;
        rcl_held = held (strokes_in b moments) Rcl;
        enters_one = enters_one;
      }

  -- what is shown in each moment, in order
  unfoldable pub shown_in : ℕ → List ℕ
  shown_in = shown cockpit

  unfoldable pub cleared_in : ℕ → Signal
  cleared_in = cleared cockpit shown_in

  unfoldable pub cancelled_in : ℕ → Signal
  cancelled_in = cancelled cockpit shown_in

  unfoldable pub recalled_in : ℕ → Signal
  recalled_in = recalled cockpit shown_in

  unfoldable pub is_shown_in : ℕ → Signal
  is_shown_in = is_shown cockpit shown_in

  unfoldable pub target_in : ℕ → Option ℕ
  target_in = target shown_in

  unfoldable pub attention : Attention
  attention =
      let key = pressed (strokes_in b moments) in
      record {
        level = λ a. (alert_at b a).level;
        sound = λ a. (alert_at b a).sound;
        up = up_in b moments;
        shown = shown_in;
        mw = key Mw;
        mc = key Mc;
        emer = key Emer;
      }

  -- the target is a caution
  abbrev pub targets_caution : Option ℕ → Bool
  targets_caution None = false
  targets_caution (Some a) = is_caution_level (alert_at b a).level

  unfoldable pub panel : Panel
  panel =
      let key = pressed (strokes_in b moments) in
      record {
        pages = length b.pages;
        all_held = held (strokes_in b moments) All;
        page_called = λ k. first_place (λ i. key (Page (i + 1)) k) (length b.pages);
        sts = key Sts;
        clr = key Clr;
        cancels = λ k. key Emer k && targets_caution (target_in k);
      }

  -- a procedure line stands while its condition holds and it isn't done
  unfoldable pub line_stands : ℕ → Line → Bool
  line_stands k l = holds (world b moments) l.when k && not (holds (world b moments) l.done k)

  -- the memos of a zone that hold, in the book's order
  unfoldable pub memo_rows : (Memo → Bool) → ℕ → List Row
  memo_rows zone k =
      map (λ (m : Memo). row m.colour m.text) (filter (λ (m : Memo). zone m && holds (world b moments) m.when k) b.memos)

  -- all rows of the left zone
  unfoldable pub left_in : ℕ → List LeftRow
  left_in k =
      left_rows (flat_map (λ a. alert_rows (line_stands k) a (alert_at b a)) (shown_in k)) (normal cockpit k)
      (memo_rows (λ (m : Memo). m.left) k)

  -- the systems of which an alert is starred
  unfoldable pub starred_systems : ℕ → List (List ℕ)
  starred_systems k =
      map (λ s. get_or b.systems s [])
      (filter (λ s. list_any (λ a. (alert_at b a).system == s && starred_in b moments a k) (alert_numbers b)) (below (length b.systems)))

  -- all rows of the right zone
  unfoldable pub right_in : ℕ → List Row
  right_in k = right_rows (starred_systems k) (memo_rows (λ (m : Memo). not m.left) k)

  -- all rows of the status page
  unfoldable pub status_in : ℕ → List Row
  status_in k =
      let active = filter (λ a. active_in b moments a k) (alert_numbers b) in
      status_rows (map (alert_at b) active) (map (alert_at b) (filter (λ a. cancelled_in a k) active))

  unfoldable pub display : ℕ → Display
  display k =
      record {
        pages = b.pages;
        kinds = λ p. (parameter_at b p).kind;
        values = λ p. value_in b moments p k;
        phase = phase_in b moments k;
        alert_page = option_and_then (λ a. (alert_at b a).page) (first_in (shown_in k));
        status = status_in k;
      }

  -- the picture of moment k
  unfoldable pub picture_in : ℕ → Picture
  picture_in k =
      left_zone (left_in k)
      ++ right_zone (right_in k)
      ++ flags_row (flags (has_more (left_in k)) (overflow (left_in k)) (right_beyond (right_in k)) (status_in k)) ∷ []
      ++ display_rows (display k) (choice panel k)
      ++ lamp_rows (warns attention k) (cautions attention k) (sound attention k)
