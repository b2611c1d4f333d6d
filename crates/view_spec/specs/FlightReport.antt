-- What occurred in each flight: the alerts that came up, each with its Tick and the flight phase. When a flight begins, and
-- the form of its report, are this project's own.
use Rattle.std.specs.Prelude.{ℕ, Bool, false, ◌&&◌, ◌||◌, ◌==◌, List, [], ◌∷◌, ◌++◌, codes, decimal, map, length, take, filter, flat_map, Option}
use Rattle.std.specs.Option.{option_map_or}
use Rattle.ecam_spec.specs.declared.kinds.Event.{Event}
use Rattle.ecam_spec.specs.Book.{Text, Book}
use Rattle.ecam_spec.specs.Past.{Signal, last, previously}
use Rattle.ecam_spec.specs.Places.{below}
use Rattle.ecam_spec.specs.Output.{line, end_line}
use Rattle.ecam_spec.specs.Alert.{onset}
use Rattle.ecam_spec.specs.Situation.{alert_at, phase_in, up_in}
use Rattle.ecam_spec.specs.Screen.{order, enters_one}
use Rattle.ecam_spec.specs.History.{Moment}
use Rattle.ecam_spec.specs.Replay.{tick_count, moment_of}
use Rattle.view_spec.specs.Ticks.{live, era_at, moment_at}
use Rattle.view_spec.specs.declared.flight_report.TheConstants.{ENTRIES}
use Rattle.view_spec.specs.declared.flight_report.Entry.{Entry}

-- what a report goes by, Tick by Tick
pub record Course : Type 0 where
  -- a computer is up at the Tick
  pub live : Signal
  -- its moment is the first of its era
  pub first : Signal
  -- its moment enters phase 1
  pub enters_one : Signal
  -- the flight phase of its moment
  pub phase : ℕ → ℕ
  -- the alerts that come up in its moment, in the order of alerts
  pub onsets : ℕ → List ℕ
  -- the name of each alert
  pub name : ℕ → Text

-- there is a number, and it is this one
abbrev pub is_number : ℕ → Option ℕ → Bool
is_number s o = option_map_or (λ t. s == t) o false

-- alerts that come up at one Tick, in one flight phase
abbrev pub entries_of : ℕ → ℕ → List ℕ → List Entry
entries_of tick phase alerts = map (λ a. record { tick = tick; phase = phase; alert = a }) alerts

-- the line of an alert that came up
unfoldable pub entry_line : (ℕ → Text) → Entry → Text
entry_line name e = line (64 ∷ decimal e.tick ++ codes " PHASE " ++ decimal e.phase ++ 32 ∷ name e.alert)

-- the line of a flight: its number, its first Tick, and how many alerts came up in it
unfoldable pub flight_line : ℕ → ℕ → ℕ → Text
flight_line number from onsets =
    line (codes "FLIGHT " ++ decimal number ++ codes " FROM " ++ decimal from ++ codes " ONSETS " ++ decimal onsets)

module _ (c : Course) where
  -- a flight begins with a live Tick whose moment is the first of its era or enters phase 1
  unfoldable pub begins : Signal
  begins t = c.live t && (c.first t || c.enters_one t)

  -- the flights that begin before Tick n, each by its first Tick
  unfoldable pub flights : ℕ → List ℕ
  flights n = filter begins (below n)

  -- the flight that began last up to now
  unfoldable pub flight_at : ℕ → Option ℕ
  flight_at = last begins

  -- the live Ticks of the flight that begins with Tick s: up to the next that begins one
  unfoldable pub is_of : ℕ → Signal
  is_of s t = c.live t && is_number s (flight_at t)

  -- the alerts that come up at Tick t
  unfoldable pub entries_at : ℕ → List Entry
  entries_at t = entries_of t (c.phase t) (c.onsets t)

  -- those of the flight that begins with Tick s, before Tick n
  unfoldable pub entries : ℕ → ℕ → List Entry
  entries n s = flat_map entries_at (filter (is_of s) (below n))

  -- the report of that flight, as it stands before Tick n: flights are numbered from 0
  unfoldable pub flight_report : ℕ → ℕ → Text
  flight_report n s =
      flight_line (length (flights s)) s (length (entries n s)) ++ flat_map (entry_line c.name) (take ENTRIES (entries n s))

  -- the last flight before Tick n
  unfoldable pub last_flight : ℕ → Option ℕ
  last_flight = previously flight_at

  -- the reports of all flights but the last
  unfoldable pub earlier_reports : ℕ → Text
  earlier_reports n = option_map_or (λ s. flat_map (flight_report n) (flights s)) (last_flight n) []

  -- the report of the last, if there is one
  unfoldable pub last_report : ℕ → Text
  last_report n = option_map_or (flight_report n) (last_flight n) []

module _ (b : Book) (h : List Event) where
  -- the moments of the era that Tick t is in
  unfoldable pub moments_at : ℕ → ℕ → Moment
  moments_at t = moment_of (era_at h t)

  -- the course of a history
  unfoldable pub course : Course
  course =
      record {
        live = live h;
        first = λ t. moment_at h t == 0;
        enters_one = λ t. enters_one b (moments_at t) (moment_at h t);
        phase = λ t. phase_in b (moments_at t) (moment_at h t);
        onsets = λ t. filter (λ a. onset (up_in b (moments_at t) a) (moment_at h t)) (order b);
        name = λ a. (alert_at b a).name;
      }

  -- what is written of a history: the reports of all flights but the last so far
  unfoldable pub report_text : Text
  report_text = earlier_reports course (tick_count h)

  -- what is written at its end: the report of the last flight, and how many Ticks there were
  unfoldable pub report_closing : Text
  report_closing = last_report course (tick_count h) ++ end_line (tick_count h)
