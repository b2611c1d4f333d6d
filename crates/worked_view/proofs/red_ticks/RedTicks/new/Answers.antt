use Rattle.std.proofs.Common.{sym}
use Rattle.worked_view.proofs.RedLaws.{red_none}
use Rattle.worked_view.proofs.red_ticks.RedTicks.new.Goals as goal

pub returns : goal.returns
returns c b = sym (red_none b)
