use Rattle.std.proofs.Common.{◌∙◌}
use Rattle.fwc_lane.proofs.CrewMoments.{enters-is}
use Rattle.fwc_lane.proofs.crew.enters_one.Goals as goal

pub returns : goal.returns
returns c = λ b m k first now before. c.enters.ensures ∙ enters-is b m k c.args.was.number c.args.phase.number c.args.ticked first now before
