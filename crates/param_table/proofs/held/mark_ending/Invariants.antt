use Rattle.std.proofs.Common.{◌≡◌, ℕ, ◌<◌, ◌==◌, ◌&&◌, ◌||◌, get_or, take}
use Rattle.std.specs.List.{list_any}
use Rattle.wakes.specs.Marks.{is_marked, room}
use Rattle.param_table.specs.declared.mailbox.Listener.{Listener}
use Rattle.param_table.specs.HeldValues.{is_ending, held_for}
use Rattle.param_table.specs.HeldState.{AreSummed, IsDue}
use Rattle.param_table.proofs.held.mark_ending.Given as goal

abbrev pub invariant-loop-i : goal.invariant-loop-i
invariant-loop-i l = record {
  room : room l.changed ≡ room l.initial.changed;
  marks : (p : ℕ) → is_marked l.changed p ≡ (list_any (λ (x : Listener). p == x.param && is_ending l.clock (held_for l.mailbox x.stale)) (take l.i l.listeners) || is_marked l.initial.changed p);
  summed : AreSummed l.initial.changed l.initial.busy → AreSummed l.changed l.busy;
  later : l.clock < l.next;
  due : (k : ℕ) (d : Listener) → k < l.i → IsDue l.clock (held_for l.mailbox (get_or l.listeners k d).stale) l.next;
}
