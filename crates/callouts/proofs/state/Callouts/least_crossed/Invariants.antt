use Rattle.std.proofs.Common.{◌≡◌, ◌&&◌, ℕ, Bool, drop, find}
use Rattle.view_spec.specs.Callouts.{heights, is_at_most}
use Rattle.callouts.specs.State.{AreArmed}
use Rattle.callouts.proofs.state.Callouts.least_crossed.Given as goal

-- none of the heights so far is crossed
abbrev pub invariant-loop-i : goal.invariant-loop-i
invariant-loop-i l =
    (armed : ℕ → Bool) → AreArmed armed l.fn.self
    → find (λ h. is_at_most h l.fn.value && armed h) (drop l.i heights)
    ≡ find (λ h. is_at_most h l.fn.value && armed h) heights
