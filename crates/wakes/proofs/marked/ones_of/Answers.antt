use Rattle.wakes.proofs.Counting.{ones-low}
use Rattle.wakes.proofs.marked.ones_of.Goals as goal

pub returns : goal.returns
returns c = ones-low c.args.word c.args.many c.requires.most
