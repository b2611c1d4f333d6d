use Rattle.std.proofs.Common.{arith}
use Rattle.term_eval.proofs.PartLaws.{parts-ends}
use Rattle.term_eval.proofs.KeptSame.{kept-by}
use Rattle.term_eval.proofs.laws.nodes_wait_by_whom_was_asked.Goals as goal

pub returns : goal.returns
returns c = λ w h old new cond at first n same waits i x heads.
    let ends = parts-ends at 0 cond i x heads in
    kept-by w h old new x first i n (λ j low high. same j (omega arith)) (waits i x heads)
