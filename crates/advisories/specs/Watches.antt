-- What is kept of all advisories: each beside its own.
use Rattle.std.specs.Prelude.{◌≡◌, ℕ, ◌<◌, ◌&&◌, ◌||◌, not, nat_lt, Bool, false, ℤ, List, map, Option, is_some, All}
use Rattle.ecam_spec.specs.Term.{in_set, is_so}
use Rattle.view_spec.specs.Advisories as plain
use Rattle.view_spec.specs.Advisories.{is_outside, is_well_inside}
use Rattle.advisories.specs.View.{advisory_of}
use Rattle.advisories.specs.Drifts.{next_run, drift_after}
use Rattle.advisories.specs.declared.drift.Drift.{Drift}
use Rattle.advisories.specs.declared.watches.Watch.{Watch}

-- the advisories that are watched
abbrev pub watched : Watch → plain.Advisory
watched w = advisory_of w.advisory

abbrev pub all_watched : List Watch → List plain.Advisory
all_watched ws = map watched ws

-- what is kept before the first moment
abbrev pub at_rest : Drift
at_rest = record { run = 0; drifts = false }

abbrev pub rested : Watch → Watch
rested w = record w { drift = at_rest }

-- and what a moment with this value, or none, makes of it
abbrev pub next_drift : plain.Advisory → Option ℤ → Drift → Drift
next_drift a value d =
    let run = next_run a.confirm (is_so (is_outside a) value) d.run in
    record {
      run = run;
      drifts = nat_lt a.confirm run || ((is_some value && not (is_so (is_well_inside a) value)) && d.drifts);
    }

abbrev pub stepped : (ℕ → Option ℤ) → Watch → Watch
stepped values w = record w { drift = next_drift (watched w) (values w.advisory.param) w.drift }

-- their parameters are among so many
abbrev pub AreWithin : ℕ → List Watch → Type 0
AreWithin count ws = All (λ (w : Watch). w.advisory.param < count) ws

-- it is told in a moment of this phase
abbrev pub is_told : ℕ → Watch → Bool
is_told phase w = w.drift.drifts && not (in_set w.advisory.inhibit.0 phase)

-- this is kept of an advisory after the first k moments, where `values` tells the values of each parameter
abbrev pub IsWatched : (ℕ → ℕ → Option ℤ) → ℕ → Watch → Type 0
IsWatched values k w = w.drift ≡ drift_after (watched w) (values w.advisory.param) k

abbrev pub AreWatched : (ℕ → ℕ → Option ℤ) → ℕ → List Watch → Type 0
AreWatched values k ws = All (IsWatched values k) ws
