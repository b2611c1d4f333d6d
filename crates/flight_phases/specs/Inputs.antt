-- The inputs of a moment as values of a flight's signals.
use Rattle.std.specs.Prelude.{◌≡◌, ℕ, suc}
use Rattle.ecam_spec.specs.Phase.{Flight}
use Rattle.flight_phases.specs.declared.inputs.PhaseInputs.{PhaseInputs}

-- these are the inputs of moment k of the flight
pub record AreInputs (f : Flight) (k : ℕ) (inputs : PhaseInputs) : Type 0 where
  pub gnd : inputs.gnd ≡ f.gnd k
  pub run : inputs.run ≡ f.run k
  pub tp : inputs.tp ≡ f.tp k
  pub fast : inputs.fast ≡ f.fast k
  pub high : inputs.high ≡ f.high k
  pub low : inputs.low ≡ f.low k

-- the moment after moment k has the inputs of moment k
pub record SameInputs (f : Flight) (k : ℕ) : Type 0 where
  pub gnd : f.gnd (suc k) ≡ f.gnd k
  pub run : f.run (suc k) ≡ f.run k
  pub tp : f.tp (suc k) ≡ f.tp k
  pub fast : f.fast (suc k) ≡ f.fast k
  pub high : f.high (suc k) ≡ f.high k
  pub low : f.low (suc k) ≡ f.low k
