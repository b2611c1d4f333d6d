use Rattle.std.proofs.Common.{◌≡◌, ◌<◌, ℕ, false, get_or}
use Rattle.fwc_lane.proofs.rest.has_any.Given as goal

abbrev pub invariant-loop-row : goal.invariant-loop-row
invariant-loop-row l = l.any ≡ false → (i : ℕ) → i < l.row → get_or l.flags i false ≡ false
