use Rattle.fwc_pair.proofs.computer.hear.Goals as goal

pub returns-then-up-clause-stands : goal.returns-then-up-clause-stands
returns-then-up-clause-stands c = λ e was on. c.word.ensures.stands e (was on)
