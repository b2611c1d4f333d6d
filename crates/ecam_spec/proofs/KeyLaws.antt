-- What follows for held keys.
use Rattle.std.proofs.Common.{◌≡◌, ℕ, suc, false, ◌&&◌, ◌||◌, List}
use Rattle.std.specs.Prelude.{unwrap_or, is_none}
use Rattle.ecam_spec.specs.declared.kinds.Key.{Key}
use Rattle.ecam_spec.specs.History.{Stroke}
use Rattle.ecam_spec.specs.Keys.{held, last_stroke}
use Rattle.ecam_spec.proofs.PastSteps.{since-suc}

-- a key stays held while it has no stroke
pub held_step : (strokes : ℕ → List Stroke) (key : Key) (k : ℕ) → held strokes key (suc k) ≡ (unwrap_or (last_stroke key (strokes (suc k))) false || (is_none (last_stroke key (strokes (suc k))) && held strokes key k))
unfolding held
held_step strokes key k = since-suc (λ j. unwrap_or (last_stroke key (strokes j)) false) (λ j. is_none (last_stroke key (strokes j))) k
