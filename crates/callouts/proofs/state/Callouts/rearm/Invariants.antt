use Rattle.std.proofs.Common.{◌≡◌, ◌<◌, ◌≤◌, ℕ, false, length, get_or}
use Rattle.view_spec.specs.Callouts.{heights}
use Rattle.callouts.specs.State.{rearmed}
use Rattle.callouts.proofs.state.Callouts.rearm.Given as goal

-- the heights so far are stepped, and the others are as they were
abbrev pub invariant-loop-i : goal.invariant-loop-i
invariant-loop-i l = record {
  param : l.self.param ≡ l.fn.self.param;
  ticks : l.self.ticks ≡ l.fn.self.ticks;
  count : length l.self.armed ≡ length l.fn.self.armed;
  done : (j : ℕ) → j < l.i → get_or l.self.armed j false ≡ rearmed l.fn.value (get_or heights j 0) (get_or l.fn.self.armed j false);
  left : (j : ℕ) → l.i ≤ j → get_or l.self.armed j false ≡ get_or l.fn.self.armed j false;
}
