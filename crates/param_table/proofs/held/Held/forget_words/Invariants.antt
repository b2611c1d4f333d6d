use Rattle.std.proofs.Common.{◌≡◌, ◌++◌, map, take, drop}
use Rattle.param_table.specs.HeldValues.{emptied}
use Rattle.param_table.proofs.held.Held.forget_words.Given as goal

abbrev pub invariant-loop-mailbox : goal.invariant-loop-mailbox
invariant-loop-mailbox l =
    l.mailbox-items ≡ map emptied (take l.mailbox-index l.initial.mailbox-items) ++ drop l.mailbox-index l.initial.mailbox-items
