use Rattle.replay_core.proofs.Blocks.{block-none, none-any}
use Rattle.replay_core.proofs.block.writes_nothing.Goals as goal

pub returns : goal.returns
returns c = λ is tick old new names.
    block-none tick old new c.args.changed.now c.told-changed names (none-any 36 c.args.changed.now c.told-changed (c.requires is))
