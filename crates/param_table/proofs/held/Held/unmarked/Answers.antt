use Rattle.std.proofs.lemmas.Bool.{eqb-true}
use Rattle.param_table.proofs.Summed.{none-marked}
use Rattle.param_table.proofs.held.Held.unmarked.Goals as goal

pub returns : goal.returns
returns c = λ on. none-marked c.args.self.now.changed c.args.self.now.busy c.requires (eqb-true c.args.self.now.busy 0 on)
