use Rattle.std.proofs.Common.{◌≡◌, ℕ, ◌==◌, ◌&&◌, ◌||◌, not, take}
use Rattle.std.specs.List.{list_any}
use Rattle.wakes.specs.Marks.{is_marked, room}
use Rattle.param_table.specs.declared.mailbox.Listener.{Listener}
use Rattle.param_table.specs.HeldValues.{says_same}
use Rattle.param_table.specs.HeldState.{AreSummed}
use Rattle.param_table.proofs.held.mark_turned.Given as goal

abbrev pub invariant-loop-i : goal.invariant-loop-i
invariant-loop-i l = record {
  room : room l.changed ≡ room l.initial.changed;
  marks : (p : ℕ) → is_marked l.changed p ≡ (list_any (λ (x : Listener). p == x.param && not (says_same x l.old l.new)) (take l.i l.listeners) || is_marked l.initial.changed p);
  summed : AreSummed l.initial.changed l.initial.busy → AreSummed l.changed l.busy;
}
