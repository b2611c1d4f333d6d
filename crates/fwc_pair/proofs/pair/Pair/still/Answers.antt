use Rattle.fwc_pair.specs.PairState.{PairFits}
use Rattle.fwc_pair.proofs.pair.Pair.still.Goals as goal

pub returns-clause-tells : goal.returns-clause-tells
unfolding PairFits
returns-clause-tells c = λ b fits on. fits.still on
