use Rattle.std.proofs.Common.{◌≡◌, ◌<◌, ◌≤◌, ℕ, false, get_or}
use Rattle.fwc_pair.proofs.face.has_any_in.Given as goal

abbrev pub invariant-loop-i : goal.invariant-loop-i
invariant-loop-i l = l.any ≡ false → (i : ℕ) → l.from ≤ i → i < l.i → get_or l.named i false ≡ false
