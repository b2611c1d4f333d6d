use Rattle.std.proofs.Common.{sym, ◌∙◌}
use Rattle.callouts.proofs.Eras.{stand-on, stand-anew}
use Rattle.callouts.proofs.state.Callouts.begin.Goals as goal

pub returns-then-fresh-clause-stands : goal.returns-then-fresh-clause-stands
returns-then-fresh-clause-stands c b h e fresh up stand =
    stand-anew h e b c.clear.new.self (sym fresh ∙ c.if-fresh.true) c.clear.ensures.stands

pub returns-else-fresh-clause-stands : goal.returns-else-fresh-clause-stands
returns-else-fresh-clause-stands c b h e fresh up stand =
    stand-on h e b c.args.self.now (sym fresh ∙ c.if-fresh.false) up stand
