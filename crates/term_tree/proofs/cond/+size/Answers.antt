use Rattle.std.proofs.Common.{arith}
use Rattle.term_tree.proofs.Members.{nodes-end, nodes-next}
use Rattle.term_tree.proofs.cond.+size.Goals as goal

pub sizes-returns : goal.sizes-returns
sizes-returns t c = omega (arith, nodes-end c.args.members.now c.loop-member.member-index c.loop-member-test.false, c.loop-member.invariant.sofar)

pub sizes-loop-member-preserved : goal.sizes-loop-member-preserved
sizes-loop-member-preserved t c = record {
  sofar = omega (arith, nodes-next c.args.members.now c.loop-member.member-index c.member-item.result c.loop-member-test.true c.member-item.is, c.loop-member.invariant.sofar);
  fits = omega arith;
}
