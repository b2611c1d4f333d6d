use Rattle.param_table.proofs.Summed.{none-marked}
use Rattle.param_table.proofs.held.Held.forget_changes.Goals as goal

pub returns-else-self-ne0-clause-none : goal.returns-else-self-ne0-clause-none
returns-else-self-ne0-clause-none c = none-marked c.args.self.now.changed c.args.self.now.busy c.requires c.if-self-ne0.false
