use Rattle.std.proofs.Common.{◌+◌, arith}
use Rattle.term_eval.proofs.Inside.{nodes-is}
use Rattle.term_eval.proofs.PartLaws.{parts-ends, slots-within}
use Rattle.term_eval.proofs.NodeKinds.{own-slot}
use Rattle.term_eval.proofs.KeptSame.{kept-same}
use Rattle.term_eval.proofs.laws.nodes_wait_by_their_own_states.Goals as goal

pub returns : goal.returns
returns c = λ w h updated cond at first old new states slots waits i x heads.
    let ends = parts-ends at 0 cond i x heads in
    let within = slots-within at 0 cond i x heads in
    let size = nodes-is x.tree in
    kept-same w h updated x first i old new (states (first + i) (omega arith) (omega arith))
    (λ temporal. let own = own-slot x.tree temporal in slots x.at within.0 (omega (arith, within.1))) (waits i x heads)
