-- What is kept of an advisory after some moments, by the values in them.
use Rattle.std.specs.Prelude.{ℕ, zero, suc, ◌+◌, ◌-◌, min, nat_le, Bool, ℤ, Option, if◌then◌else◌}
use Rattle.ecam_spec.specs.Past.{Signal, start_of, previous}
use Rattle.view_spec.specs.Advisories.{Advisory, is_out, drift}
use Rattle.advisories.specs.declared.drift.Drift.{Drift}

-- in how many of the first k moments, up to the last of them, the signal held in a row
abbrev pub run_after : Signal → ℕ → ℕ
run_after p zero = 0
run_after p (suc k) = suc k - start_of p k

-- a run that ends at one more than so many moments, with one moment more
abbrev pub next_run : ℕ → Bool → ℕ → ℕ
next_run most holds run = if holds then (if nat_le run most then run + 1 else run) else 0

-- what is kept of an advisory after the first k moments
abbrev pub drift_after : Advisory → (ℕ → Option ℤ) → ℕ → Drift
drift_after a values k = record {
  run = min (a.confirm + 1) (run_after (is_out a values) k);
  drifts = previous (drift a values) k;
}
