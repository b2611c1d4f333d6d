use Rattle.std.proofs.Common.{◌≡◌, ◌++◌, map, take, drop}
use Rattle.param_table.specs.HeldValues.{set_back}
use Rattle.param_table.proofs.table.Params.set_clock_back.Given as goal

abbrev pub invariant-loop-mailbox : goal.invariant-loop-mailbox
invariant-loop-mailbox l =
    l.mailbox-items ≡ map set_back (take l.mailbox-index l.initial.mailbox-items) ++ drop l.mailbox-index l.initial.mailbox-items
