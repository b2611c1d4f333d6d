use Rattle.std.proofs.Common.{◌∙◌, ap, get_or, arith}
use Rattle.view_spec.specs.Callouts.{heights}
use Rattle.callouts.specs.State.{rearmed}
use Rattle.callouts.proofs.InOrder.{flag-at, flags-are}
use Rattle.callouts.proofs.state.Callouts.rearm.Goals as goal

pub returns-clause-armed : goal.returns-clause-armed
returns-clause-armed c armed is =
    flags-are c.args.self.now.armed c.loop-i.self.armed armed (λ h. rearmed c.args.value h (armed h)) is c.loop-i.invariant.count
    (λ i within. c.loop-i.invariant.done i (omega (arith, within, c.loop-i-test.false)) ∙ ap (rearmed c.args.value (get_or heights i 0)) (flag-at _ armed i within is))
