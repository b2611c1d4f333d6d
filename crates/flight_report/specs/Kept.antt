-- What is kept of the flights, by the course of the Ticks and by the moments of an era.
use Rattle.std.specs.Prelude.{◌≡◌, ℕ, suc, ◌<◌, ◌≤◌, ◌^◌, ◌==◌, Bool, true, false, not, ◌&&◌, List, [], ◌++◌, length, get_or, take, filter, flat_map, Option, Some, None, option_map, IfSome}
use Rattle.std.specs.Option.{option_map_or}
use Rattle.std.specs.Box.{boxed_slice_items}
use Rattle.ecam_spec.specs.declared.kinds.Event.{Event}
use Rattle.ecam_spec.specs.Book.{Text, Book}
use Rattle.ecam_spec.specs.Past.{Signal, previously}
use Rattle.ecam_spec.specs.Alert.{onset}
use Rattle.ecam_spec.specs.Situation.{phase_in, up_in}
use Rattle.ecam_spec.specs.Screen.{order, enters_one}
use Rattle.ecam_spec.specs.History.{Moment, era}
use Rattle.ecam_spec.specs.Replay.{tick_count}
use Rattle.view_spec.specs.declared.flight_report.TheConstants.{ENTRIES}
use Rattle.view_spec.specs.declared.flight_report.Entry.{Entry}
use Rattle.view_spec.specs.Ticks.{is_up}
use Rattle.view_spec.specs.FlightReport.{Course, entry_line, flight_line, flights, entries, last_flight, course}
use Rattle.alert_truth.specs.Alerts.{Tells}
use Rattle.fwc_lane.specs.LaneStands.{Continues}
use Rattle.flight_report.specs.declared.flight.Flight.{Flight}
use Rattle.flight_report.specs.declared.watch.Watch.{Watch}
use Rattle.flight_report.specs.declared.report.Report.{Report}

-- the alerts that come up, in this order: those that are up, and weren't before
abbrev pub come_up : List ℕ → List Bool → List Bool → List ℕ
come_up order was up = filter (λ a. get_or up a false && not (get_or was a false)) order

-- the lines of alerts that came up, where the alerts have these names
abbrev pub entry_lines : (ℕ → Text) → List Entry → Text
entry_lines name es = flat_map (entry_line name) es

-- the report of a flight as it is kept
abbrev pub flight_text : (ℕ → Text) → Flight → Text
flight_text name f = flight_line f.number f.from f.onsets ++ entry_lines name f.entries.items

-- that of the last flight, if there is one
abbrev pub last_text : (ℕ → Text) → Option Flight → Text
last_text name f = option_map_or (flight_text name) f []

-- this is the last flight, if there is one, and what came up in it before Tick n: how many alerts, and the first of them
pub record IsKept (c : Course) (n : ℕ) (last : Option ℕ) (f : Flight) : Type 0 where
  pub from : last ≡ Some f.from
  pub number : f.number ≡ length (flights c f.from)
  pub onsets : f.onsets ≡ length (entries c n f.from)
  pub entries : f.entries.items ≡ take ENTRIES (entries c n f.from)

abbrev pub IsLast : Course → ℕ → Option ℕ → Option Flight → Type 0
IsLast c n last None = last ≡ None
IsLast c n last (Some f) = IsKept c n last f

-- one more flight, and the alerts of one more Tick, can be counted: a book has at most 2048 alerts
pub record HasRoom (r : Report) : Type 0 where
  pub ticks : r.ticks < 2 ^ 32
  pub number : IfSome r.flight (λ f. f.number < 2 ^ 32)
  pub onsets : IfSome r.flight (λ f. f.onsets ≤ 2 ^ 43)

-- there is a flag for each of so many alerts
abbrev pub Watches : ℕ → Watch → Type 0
Watches n w = length (boxed_slice_items w.up) ≡ n

-- the phase of the last of k moments, and which of n alerts were up in it
pub record WatchStands (n : ℕ) (ups : ℕ → Signal) (phases : ℕ → ℕ) (k : ℕ) (w : Watch) : Type 0 where
  pub phase : option_map (λ p. p.number) w.phase ≡ previously (λ j. Some (phases j)) k
  pub up : Tells n (boxed_slice_items w.up) ups k

-- at Tick n of the course a computer is up, and a moment ends with this flight phase in which these alerts are up, after
-- the moments of which the last is kept
pub record Comes (b : Book) (c : Course) (n : ℕ) (phase : ℕ) (up : List Bool) (w : Watch) : Type 0 where
  pub moments : ℕ → Moment
  pub number : ℕ
  pub live : c.live n ≡ true
  pub first : c.first n ≡ (number == 0)
  pub enters_one : c.enters_one n ≡ enters_one b moments number
  pub in_phase : c.phase n ≡ phase_in b moments number
  pub onsets : c.onsets n ≡ filter (λ a. onset (up_in b moments a) number) (order b)
  pub phase_is : phase ≡ phase_in b moments number
  pub up_are : Tells (length b.alerts) up (up_in b moments) (suc number)
  pub watch : WatchStands (length b.alerts) (up_in b moments) (phase_in b moments) number w

-- the report stands for a history: its Ticks are counted, its last flight is kept, and while a computer is up so is
-- what the moments of its era leave
pub record ReportStands (b : Book) (h : List Event) (r : Report) : Type 0 where
  pub ticks : r.ticks ≡ tick_count h
  pub flight : IsLast (course b h) (tick_count h) (last_flight (course b h) (tick_count h)) r.flight
  pub fits : Watches (length b.alerts) r.watch
  pub watch : is_up h ≡ true → (m : ℕ → Moment) → Continues (era h) m
      → WatchStands (length b.alerts) (up_in b m) (phase_in b m) (length (era h).moments) r.watch
