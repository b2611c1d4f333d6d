use Rattle.std.proofs.Common.{arith}
use Rattle.term_tree.proofs.Members.{slots-end, slots-next}
use Rattle.term_tree.proofs.cond.+slots.Goals as goal

pub slots_of_all-returns : goal.slots_of_all-returns
slots_of_all-returns t c = omega (arith, slots-end c.args.members.now c.loop-member.member-index c.loop-member-test.false, c.loop-member.invariant.sofar)

pub slots_of_all-loop-member-preserved : goal.slots_of_all-loop-member-preserved
slots_of_all-loop-member-preserved t c = record {
  sofar = omega (arith, slots-next c.args.members.now c.loop-member.member-index c.member-item.result c.loop-member-test.true c.member-item.is, c.loop-member.invariant.sofar);
  fits = omega arith;
}
