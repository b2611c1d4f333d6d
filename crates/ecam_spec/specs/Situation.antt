-- The situation in each moment of an era, for a book: the values, the flight phase, and which alerts are present,
-- active, waiting, starred and up. It only ties the definitions of values, conditions, phases and alerts together.
use Rattle.std.specs.Prelude.{ℕ, zero, suc, false, ◌==◌, ℤ, List, [], ◌∷◌, ◌++◌, map, get_or, Option, None, if◌then◌else◌}
use Rattle.ecam_spec.specs.declared.kinds.Kind.TheVariants.{Disc}
use Rattle.ecam_spec.specs.declared.kinds.Level.TheVariants.{One}
use Rattle.ecam_spec.specs.declared.kinds.Sound.TheVariants.{Quiet}
use Rattle.ecam_spec.specs.Past.{Signal}
use Rattle.ecam_spec.specs.Book.{constant, Parameter, Alert, Book}
use Rattle.ecam_spec.specs.Value.{BusWord, value}
use Rattle.ecam_spec.specs.Term.{World, holds, in_set}
use Rattle.ecam_spec.specs.Phase.{Flight, phase as phase_of}
use Rattle.ecam_spec.specs.History.{Moment, Stroke}
use Rattle.ecam_spec.specs.Keys.{pressed}
use Rattle.ecam_spec.specs.Alert.{present, active, waiting, starred, up, primaries_in}

-- past the end of a list stands a parameter that never has a value, and an alert that is never present
abbrev pub no_parameter : Parameter
no_parameter = record { name = []; kind = Disc; stale = 0; sources = [] }

abbrev pub no_alert : Alert
no_alert = record { name = []; title = []; system = 0; level = One; when = constant false; page = None; confirm = 0; sound = Quiet; inhibit = 0; secondary = []; lines = []; status = [] }

module _ (b : Book) where
  abbrev pub parameter_at : ℕ → Parameter
  parameter_at p = get_or b.parameters p no_parameter

  abbrev pub alert_at : ℕ → Alert
  alert_at a = get_or b.alerts a no_alert

  -- the alerts that list alert a as secondary
  unfoldable pub primaries : ℕ → List ℕ
  primaries a = primaries_in (map (λ (p : Alert). p.secondary) b.alerts) a

-- a book, and the moments of an era by their numbers
module _ (b : Book) (moments : ℕ → Moment) where
  abbrev pub words_in : ℕ → List BusWord
  words_in k = (moments k).words

  abbrev pub strokes_in : ℕ → List Stroke
  strokes_in k = (moments k).strokes

  unfoldable pub value_in : ℕ → ℕ → Option ℤ
  value_in p k = value (parameter_at b p) words_in k

  -- computer 1 or 2 is up at the end of the moment
  unfoldable pub computer_up : ℕ → Signal
  computer_up n k = if n == 1 then (moments k).flags.one else (moments k).flags.two

  -- what conditions speak of, where these are the phases and the active alerts
  abbrev pub world_where : (ℕ → ℕ) → (ℕ → Signal) → World
  world_where phase active = record { values = value_in; phase = phase; active = active; pressed = pressed strokes_in; up = computer_up }

  -- what the phase's six conditions speak of: since they may ask of neither phases nor alerts, the phase is 1 there
  -- in each moment, and no alert is active
  abbrev pub flight_world : World
  flight_world = world_where (λ k. 1) (λ a k. false)

  unfoldable pub flight : Flight
  flight =
      record {
        gnd = holds flight_world b.phase.gnd;
        run = holds flight_world b.phase.run;
        tp = holds flight_world b.phase.tp;
        fast = holds flight_world b.phase.fast;
        high = holds flight_world b.phase.high;
        low = holds flight_world b.phase.low;
      }

  unfoldable pub phase_in : ℕ → ℕ
  phase_in = phase_of flight

  -- what an alert's condition speaks of, where `earlier` tells when the alerts before it in the book are active: it
  -- names no other alert
  abbrev pub alert_world : List Signal → World
  alert_world earlier = world_where phase_in (λ i. get_or earlier i (λ k. false))

  unfoldable pub condition : List Signal → ℕ → Signal
  condition earlier a = holds (alert_world earlier) (alert_at b a).when

  unfoldable pub present_knowing : List Signal → ℕ → Signal
  present_knowing earlier a = present (alert_at b a).confirm (condition earlier a)

  unfoldable pub inhibited : ℕ → Signal
  inhibited a k = in_set (alert_at b a).inhibit (phase_in k)

  unfoldable pub active_knowing : List Signal → ℕ → Signal
  active_knowing earlier a = active (inhibited a) (present_knowing earlier a)

  -- when each of the first n alerts is active
  unfoldable pub known_below : ℕ → List Signal
  known_below zero = []
  known_below (suc n) = let earlier = known_below n in earlier ++ active_knowing earlier n ∷ []

  unfoldable pub condition_in : ℕ → Signal
  condition_in a = condition (known_below a) a

  unfoldable pub present_in : ℕ → Signal
  present_in a = present_knowing (known_below a) a

  unfoldable pub active_in : ℕ → Signal
  active_in a = active_knowing (known_below a) a

  unfoldable pub waiting_in : ℕ → Signal
  waiting_in a = waiting (present_in a) (active_in a)

  -- what every other condition speaks of
  unfoldable pub world : World
  world = world_where phase_in active_in

  unfoldable pub starred_in : ℕ → Signal
  starred_in a = starred active_in (primaries b a) a

  unfoldable pub up_in : ℕ → Signal
  up_in a = up (active_in a) (starred_in a)
