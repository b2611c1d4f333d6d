-- The flight phase, 1 to 10, from six signals. The outline is the A320's (DSC-31); the exact rules, with a
-- rejected take-off, a go-around and a restart, are this project's own.
use Rattle.std.specs.Prelude.{ℕ, ◌-◌, false, not, ◌&&◌, ◌||◌, nat_lt, unwrap_or, if◌then◌else◌}
use Rattle.std.specs.Option.{option_map_or}
use Rattle.ecam_spec.specs.Past.{Signal, once_from, since, previous, rise, last, start_of}

-- what the phase goes by; what each is in numbers the book says
pub record Flight : Type 0 where
  -- the aircraft is on ground
  pub gnd : Signal
  -- an engine runs
  pub run : Signal
  -- take-off power is set
  pub tp : Signal
  -- it is fast, as in a take-off run or after landing
  pub fast : Signal
  -- it is high, as at the end of a climb
  pub high : Signal
  -- it is low, as in a climb or an approach
  pub low : Signal

module _ (f : Flight) where
  -- on ground with no engine running
  abbrev pub parked : Signal
  parked k = f.gnd k && not (f.run k)

  -- on ground with an engine running
  abbrev pub running : Signal
  running k = f.gnd k && f.run k

  abbrev pub airborne : Signal
  airborne k = not (f.gnd k)

  -- there was a flight, or a take-off run, since the aircraft was last parked
  unfoldable pub trip : Signal
  trip = since (λ k. airborne k || (running k && f.fast k)) (λ k. not (parked k))

  -- where it is parked: for less than five minutes, and after a trip
  unfoldable pub back_lately : Signal
  back_lately k = let x = start_of parked k in previous trip x && nat_lt (k - x) 3000

  -- the marks of a climb: high, and low where it isn't high
  abbrev pub low_marked : Signal
  low_marked k = f.low k && not (f.high k)

  abbrev pub marked : Signal
  marked k = f.high k || low_marked k

  -- the latest mark was high
  unfoldable pub high_last : Signal
  high_last k = option_map_or f.high (last marked k) false

  -- a climb begins: at lift-off, or by take-off power at a low mark
  unfoldable pub climb_begins : Signal
  climb_begins k = rise airborne k || (airborne k && (low_marked k && f.tp k))

  -- the moment in which the present climb began
  unfoldable pub climb_start : ℕ → ℕ
  climb_start k = unwrap_or (last climb_begins k) 0

  -- the present climb has had a high mark
  unfoldable pub climbed : Signal
  climbed k = once_from (climb_start k) f.high k

  -- parked: phase 10 for five minutes after a trip, else 1
  unfoldable pub parked_phase : ℕ → ℕ
  parked_phase k = if back_lately k then 10 else 1

  -- on ground with an engine running
  unfoldable pub ground_phase : ℕ → ℕ
  ground_phase k =
      if f.tp k then (if f.fast k then 4 else 3)
      else (if f.fast k then 8 else (if trip k then 9 else 2))

  -- in the air: phase 5 until the climb's first high mark, then 6 or 7 as the latest mark was high or low
  unfoldable pub air_phase : ℕ → ℕ
  air_phase k = if climbed k then (if high_last k then 6 else 7) else 5

  unfoldable pub phase : ℕ → ℕ
  phase k =
      if f.gnd k then (if f.run k then ground_phase k else parked_phase k) else air_phase k
