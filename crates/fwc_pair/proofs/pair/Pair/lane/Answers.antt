use Rattle.fwc_pair.specs.PairState.{UpStand}
use Rattle.fwc_pair.proofs.pair.Pair.lane.Goals as goal

pub returns-then-self-clause-stands : goal.returns-then-self-clause-stands
unfolding UpStand
returns-then-self-clause-stands c = λ b h st. st.up.one c.if-self.true

pub returns-then-self-2-clause-stands : goal.returns-then-self-2-clause-stands
unfolding UpStand
returns-then-self-2-clause-stands c = λ b h st. st.up.two c.if-self-2.true
