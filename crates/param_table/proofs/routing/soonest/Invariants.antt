use Rattle.std.proofs.Common.{◌<◌, ◌≤◌, ℕ, get_or}
use Rattle.param_table.specs.declared.mailbox.Listener.{Listener}
use Rattle.param_table.proofs.routing.soonest.Given as goal

abbrev pub invariant-loop-i : goal.invariant-loop-i
invariant-loop-i l = (k : ℕ) (d : Listener) → k < l.i → l.soonest ≤ (get_or l.listeners k d).stale
