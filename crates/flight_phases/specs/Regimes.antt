-- How a moment of a flight stands among those before it.
use Rattle.std.specs.Prelude.{◌≡◌, ℕ, ◌-◌, min, true, IsTrue}
use Rattle.ecam_spec.specs.Past.{previous, start_of}
use Rattle.ecam_spec.specs.Phase.{Flight, parked, airborne, trip}
use Rattle.flight_phases.specs.declared.regime.Regime.{Regime}
use Rattle.flight_phases.specs.declared.regime.Regime.TheVariants.{Parked, Running, Airborne}
use Rattle.flight_phases.specs.Climbs.{climb_at}

-- this is how moment k stands
abbrev pub StandsAs : Flight → ℕ → Regime → Type 0
StandsAs f k (Parked age after_trip) =
    let start = start_of (parked f) k in
    IsTrue (parked f k) × (age ≡ min (k - start) 3000) × (after_trip ≡ previous (trip f) start)
StandsAs f k (Running tripped) = (f.gnd k ≡ true) × (f.run k ≡ true) × (tripped ≡ trip f k)
StandsAs f k (Airborne climb) = IsTrue (airborne f k) × (climb ≡ climb_at f k)
