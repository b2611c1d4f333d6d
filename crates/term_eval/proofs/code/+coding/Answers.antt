use Rattle.std.proofs.Common.{rules, ◌-◌, ap, ◌∙◌, arith}
use borrow.Author.Rules.{get_or_read}
use Rattle.term_tree.specs.declared.cond.Cond.TheFolds.{the_lemmas}
use Rattle.term_tree.specs.View.{tree_of}
use Rattle.term_tree.proofs.Views.{tree_of-All, tree_of-Any, tree_of-AtLeast, tree_of-Conf, tree_of-Hold, tree_of-Rise, tree_of-Latch}
use Rattle.term_tree.proofs.Members.{slots-end, slots-next}
use Rattle.term_eval.proofs.Coding.{coded, coded-both, behind-first, all-code, any-code, at_least-code, confirmed-code, held-code, risen-code, latched-code, codes-next, codes-end, longer-by, short-next, short-end}
use Rattle.term_eval.proofs.code.+coding.Goals as goal

pub add_node-returns-in_ok-add-in-All-clause-code : goal.add_node-returns-in_ok-add-in-All-clause-code
add_node-returns-in_ok-add-in-All-clause-code t c =
    coded c.add_nodes.result _ _ _ _ _ _ c.in_ok-add-in-All.ensures
    (all-code c.args.next.now c.args.up _ c.in-All.members.items _ c.len.result (ap tree_of c.in-All.is ∙ tree_of-All c.in-All.members) c.deref-in-All.ensures.value
    (c.len.ensures ∙ c.in-All.members.ok.0))
    c.add_nodes.ensures.code

pub add_node-returns-in_ok-add-in-Any-clause-code : goal.add_node-returns-in_ok-add-in-Any-clause-code
add_node-returns-in_ok-add-in-Any-clause-code t c =
    coded c.add_nodes-in-Any.result _ _ _ _ _ _ c.in_ok-add-in-Any.ensures
    (any-code c.args.next.now c.args.up _ c.in-Any.members.items _ (ap tree_of c.in-Any.is ∙ tree_of-Any c.in-Any.members) c.deref-in-Any.ensures.value)
    c.add_nodes-in-Any.ensures.code

pub add_node-returns-in_ok-add-in-AtLeast-clause-code : goal.add_node-returns-in_ok-add-in-AtLeast-clause-code
add_node-returns-in_ok-add-in-AtLeast-clause-code t c =
    coded c.add_nodes-in-AtLeast.result _ _ _ _ _ _ c.in_ok-add-in-AtLeast.ensures
    (at_least-code c.args.next.now c.args.up c.in-AtLeast.least _ c.in-AtLeast.members.items _ (ap tree_of c.in-AtLeast.is ∙ tree_of-AtLeast c.in-AtLeast.least c.in-AtLeast.members)
    c.deref-in-AtLeast.ensures.value)
    c.add_nodes-in-AtLeast.ensures.code

pub add_node-returns-in_ok-add-in-Conf-clause-code : goal.add_node-returns-in_ok-add-in-Conf-clause-code
add_node-returns-in_ok-add-in-Conf-clause-code t c =
    coded c.add_node-in-Conf.result _ _ _ _ _ _ c.in_ok-add-in-Conf.ensures
    (confirmed-code c.args.next.now c.args.up _ c.in-Conf.of.value _ c.in-Conf.moments c.short.result c.own_slot-own.result c.own_slot-own.new.next
    (ap tree_of c.in-Conf.is ∙ tree_of-Conf c.in-Conf.of c.in-Conf.moments) c.deref-in-Conf.ensures c.short.ensures.same c.own_slot-own.ensures.own c.own_slot-own.ensures.next)
    c.add_node-in-Conf.ensures.code

pub add_node-returns-in_ok-add-in-Hold-clause-code : goal.add_node-returns-in_ok-add-in-Hold-clause-code
add_node-returns-in_ok-add-in-Hold-clause-code t c =
    coded c.add_node-in-Hold.result _ _ _ _ _ _ c.in_ok-add-in-Hold.ensures
    (held-code c.args.next.now c.args.up _ c.in-Hold.of.value _ c.in-Hold.moments c.short-in-Hold.result c.own_slot-own-in-Hold.result c.own_slot-own-in-Hold.new.next
    (ap tree_of c.in-Hold.is ∙ tree_of-Hold c.in-Hold.of c.in-Hold.moments) c.deref-in-Hold.ensures c.short-in-Hold.ensures.same c.own_slot-own-in-Hold.ensures.own c.own_slot-own-in-Hold.ensures.next)
    c.add_node-in-Hold.ensures.code

pub add_node-returns-in_ok-add-in-Rise-clause-code : goal.add_node-returns-in_ok-add-in-Rise-clause-code
add_node-returns-in_ok-add-in-Rise-clause-code t c =
    coded c.add_node-in-Rise.result _ _ _ _ _ _ c.in_ok-add-in-Rise.ensures
    (risen-code c.args.next.now c.args.up _ c.in-Rise.of.value _ c.own_slot-own-in-Rise.result c.own_slot-own-in-Rise.new.next
    (ap tree_of c.in-Rise.is ∙ tree_of-Rise c.in-Rise.of) c.deref-in-Rise.ensures c.own_slot-own-in-Rise.ensures.own c.own_slot-own-in-Rise.ensures.next)
    c.add_node-in-Rise.ensures.code

pub add_node-returns-in_ok-add_node-in-Latch-clause-code : goal.add_node-returns-in_ok-add_node-in-Latch-clause-code
add_node-returns-in_ok-add_node-in-Latch-clause-code t c =
    let old = c.len-at.ensures ∙ c.args.steps.now.ok.0 in
    let late = c.len-in-Latch.ensures ∙ c.add_node-in-Latch.new.steps.ok.0 in
    let far = behind-first _ _ _ _ _ _ _ c.in_ok-add-in-Latch.ensures c.in_ok-add_node-in-Latch.ensures.code in
    coded-both c.add_node-in-Latch-2.result _ _ _ _ _ _ _ _ c.in_ok-add-in-Latch.ensures c.in_ok-add_node-in-Latch.ensures.code
    (latched-code c.args.next.now c.args.up _ c.in-Latch.set.value c.in-Latch.reset.value _ _ c.own_slot-own-in-Latch.result c.own_slot-own-in-Latch.new.next c.add_node-in-Latch.new.next
    (c.len-in-Latch.result - c.len-at.result)
    (ap tree_of c.in-Latch.is ∙ tree_of-Latch c.in-Latch.set c.in-Latch.reset) c.deref-in-Latch.ensures c.deref-in-Latch-2.ensures
    c.own_slot-own-in-Latch.ensures.own c.own_slot-own-in-Latch.ensures.next c.in_ok-add_node-in-Latch.ensures.next (omega (arith, old, late, far)))
    c.add_node-in-Latch-2.ensures.code

pub add_nodes-add_node-requires : goal.add_nodes-add_node-requires
add_nodes-add_node-requires t c =
    let size = slots-next c.args.members.now c.loop-member.member-index c.member-item.result c.loop-member-test.true c.member-item.is in
    (search (rules, the_lemmas, get_or_read), omega (arith, size, c.loop-member.invariant.place, c.requires))

pub add_nodes-loop-member-preserved : goal.add_nodes-loop-member-preserved
add_nodes-loop-member-preserved t c =
    let size = slots-next c.args.members.now c.loop-member.member-index c.member-item.result c.loop-member-test.true c.member-item.is in
    let old = c.len.ensures ∙ c.loop-member.steps.ok.0 in
    let far = longer-by _ _ _ _ _ c.in_ok-add_node.ensures.code in
    record {
      place = omega (arith, size, c.loop-member.invariant.place, c.in_ok-add_node.ensures.next);
      own = omega (arith, far, c.loop-member.invariant.own);
      code = codes-next c.args.members.now c.loop-member.member-index c.member-item.result c.loop-member-test.true c.member-item.is c.loop-member.next c.add_node.new.next _ _ _ _ _ _
          c.in_ok-add_node.ensures.next (ap (λ n. n - (c.len-own.result - 1)) old) (omega (arith, old, far, c.loop-member.invariant.own)) c.in_ok-add_node.ensures.code c.loop-member.invariant.code;
      short = λ rest. c.loop-member.invariant.short
          (short-next c.args.members.now c.loop-member.member-index c.member-item.result c.loop-member-test.true c.member-item.is c.in_ok-add_node.ensures.short rest);
    }

pub add_nodes-returns-clause-next : goal.add_nodes-returns-clause-next
add_nodes-returns-clause-next t c =
    let end = slots-end c.args.members.now c.loop-member.member-index c.loop-member-test.false in
    omega (arith, end, c.loop-member.invariant.place)

pub add_nodes-returns-clause-code : goal.add_nodes-returns-clause-code
add_nodes-returns-clause-code t c = codes-end c.args.members.now c.loop-member.member-index c.loop-member-test.false c.loop-member.next _ _ ∙ c.loop-member.invariant.code

pub add_nodes-returns-clause-short : goal.add_nodes-returns-clause-short
add_nodes-returns-clause-short t c = c.loop-member.invariant.short (short-end c.args.members.now c.loop-member.member-index c.loop-member-test.false)
