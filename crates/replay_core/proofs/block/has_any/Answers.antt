use Rattle.std.proofs.Common.{◌∙◌}
use Rattle.replay_core.proofs.Blocks.{any-set}
use Rattle.replay_core.proofs.block.has_any.Goals as goal

pub returns : goal.returns
returns c = c.contains.ensures.value ∙ any-set c.args.flags.now
