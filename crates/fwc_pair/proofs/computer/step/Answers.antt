use Rattle.fwc_pair.proofs.computer.step.Goals as goal

pub returns-then-up-clause-stands : goal.returns-then-up-clause-stands
returns-then-up-clause-stands c = λ e ups was on. c.event.ensures.stands e ups (was on)
