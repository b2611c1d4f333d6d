use Rattle.std.proofs.Common.{◌<◌, length, get_or, arith}
use Rattle.std.proofs.lemmas.List.{get_or_default}
use Rattle.std.proofs.lemmas.List.Edits.{map_over_more}
use Rattle.param_table.specs.HeldValues.{emptied, unused}
use Rattle.param_table.proofs.held.Held.forget_words.Goals as goal

pub loop-mailbox-preserved : goal.loop-mailbox-preserved
loop-mailbox-preserved c =
    let ys = c.loop-mailbox.mailbox-items in
    let i = c.loop-mailbox.mailbox-index in
    let here = get_or ys i unused in
    let within : i < length c.deref_mut-mailbox-items.result.now = omega arith in
    let inside : i < length ys = omega arith in
    map_over_more emptied c.deref_mut-mailbox-items.result.now ys i here within c.loop-mailbox.invariant (get_or_default ys i unused here inside)
