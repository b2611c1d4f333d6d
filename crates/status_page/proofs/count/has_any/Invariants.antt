use Rattle.std.proofs.Common.{◌≡◌, ◌<◌, ℕ, false, get_or}
use Rattle.status_page.proofs.count.has_any.Given as goal

abbrev pub invariant-loop-i : goal.invariant-loop-i
invariant-loop-i l = l.any ≡ false → (i : ℕ) → i < l.i → get_or l.flags i false ≡ false
