use Rattle.std.proofs.Common.{arith}
use Rattle.term_tree.proofs.Members.{depth-end, depth-next}
use Rattle.term_tree.proofs.cond.+depth.Goals as goal

pub greatest_depth-returns : goal.greatest_depth-returns
greatest_depth-returns t c = omega (arith, depth-end c.args.members.now c.loop-member.member-index c.loop-member-test.false, c.loop-member.invariant.sofar)

pub greatest_depth-loop-member-preserved : goal.greatest_depth-loop-member-preserved
greatest_depth-loop-member-preserved t c = record {
  sofar = omega (arith, depth-next c.args.members.now c.loop-member.member-index c.member-item.result c.loop-member-test.true c.member-item.is, c.loop-member.invariant.sofar);
  fits = omega arith;
}
