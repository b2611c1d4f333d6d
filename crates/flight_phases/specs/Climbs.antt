-- Where the climb stands in a moment of a flight.
use Rattle.std.specs.Prelude.{ℕ, Bool, true, false}
use Rattle.ecam_spec.specs.Phase.{Flight, climbed, high_last}
use Rattle.flight_phases.specs.declared.climb.Climb.{Climb}
use Rattle.flight_phases.specs.declared.climb.Climb.TheVariants.{Initial, Above, Below}

-- where a climb stands, by whether it has a high mark, and whether the latest mark is high
abbrev pub climb_of : Bool → Bool → Climb
climb_of false latest = Initial
climb_of true true = Above
climb_of true false = Below

-- where the climb stands in moment k, which is in the air
abbrev pub climb_at : Flight → ℕ → Climb
climb_at f k = climb_of (climbed f k) (high_last f k)
