-- What the state says of the moments so far.
use Rattle.std.specs.Prelude.{◌≡◌, ℕ, suc, Option, Some, None}
use Rattle.ecam_spec.specs.Phase.{Flight}
use Rattle.flight_phases.specs.declared.regime.Regime.{Regime}
use Rattle.flight_phases.specs.declared.state.PhaseState.{PhaseState}
use Rattle.flight_phases.specs.Regimes.{StandsAs}

-- this is how the last of k moments stands, if there was one
abbrev pub IsLast : Flight → ℕ → Option Regime → Type 0
IsLast f k None = k ≡ 0
IsLast f k (Some s) = (j : ℕ) × (k ≡ suc j) × StandsAs f j s

-- the state stands for the k moments of the flight so far
unfoldable pub Stands : Flight → ℕ → PhaseState → Type 0
Stands f k state = IsLast f k state.last
