use Rattle.std.proofs.Common.{rules, OnOk, sym, ap, ◌∙◌, subst}
use Rattle.ecam_spec.specs.Book.{Tree}
use Rattle.term_tree.specs.declared.cond.Cond.{Cond}
use borrow.Author.Rules.{get_or_read}
use Rattle.term_tree.specs.declared.cond.Cond.TheFolds.{the_lemmas}
use Rattle.term_tree.specs.View.{tree_of, trees_of}
use Rattle.term_tree.proofs.Views.{tree_of-All, tree_of-Any, tree_of-AtLeast, tree_of-Latch}
use Rattle.term_eval.specs.Woken.{operands}
use Rattle.watch_lists.specs.Naming.{names, some_name}
use Rattle.watch_lists.specs.Listed.{items_of, Adds}
use Rattle.watch_lists.proofs.Adding.{on-ok, adds-latch, adds-next, adds-end, within-next}
use Rattle.watch_lists.proofs.lists.+adding.Goals as goal

pub add_operands-returns-in-All-clause-listed : goal.add_operands-returns-in-All-clause-listed
unfolding operands
add_operands-returns-in-All-clause-listed t c =
    let tree = ap tree_of c.in-All.is ∙ tree_of-All c.in-All.members in
    subst (λ (x : Tree). OnOk c.add_each.result (Adds c.args.term (names c.args.sizes x) (items_of c.args.lists.now.items) (items_of c.add_each.new.lists.items))) (sym tree)
    (subst (λ cs. OnOk c.add_each.result (Adds c.args.term (some_name c.args.sizes (trees_of cs)) (items_of c.args.lists.now.items) (items_of c.add_each.new.lists.items))) c.deref-in-All.ensures.value
    c.add_each.ensures.listed)

pub add_operands-returns-in-Any-clause-listed : goal.add_operands-returns-in-Any-clause-listed
unfolding operands
add_operands-returns-in-Any-clause-listed t c =
    let tree = ap tree_of c.in-Any.is ∙ tree_of-Any c.in-Any.members in
    subst (λ (x : Tree). OnOk c.add_each-in-Any.result (Adds c.args.term (names c.args.sizes x) (items_of c.args.lists.now.items) (items_of c.add_each-in-Any.new.lists.items))) (sym tree)
    (subst (λ cs. OnOk c.add_each-in-Any.result (Adds c.args.term (some_name c.args.sizes (trees_of cs)) (items_of c.args.lists.now.items) (items_of c.add_each-in-Any.new.lists.items))) c.deref-in-Any.ensures.value
    c.add_each-in-Any.ensures.listed)

pub add_operands-returns-in-AtLeast-clause-listed : goal.add_operands-returns-in-AtLeast-clause-listed
unfolding operands
add_operands-returns-in-AtLeast-clause-listed t c =
    let tree = ap tree_of c.in-AtLeast.is ∙ tree_of-AtLeast c.in-AtLeast.field-0 c.in-AtLeast.members in
    subst (λ (x : Tree). OnOk c.add_each-in-AtLeast.result (Adds c.args.term (names c.args.sizes x) (items_of c.args.lists.now.items) (items_of c.add_each-in-AtLeast.new.lists.items))) (sym tree)
    (subst (λ cs. OnOk c.add_each-in-AtLeast.result (Adds c.args.term (some_name c.args.sizes (trees_of cs)) (items_of c.args.lists.now.items) (items_of c.add_each-in-AtLeast.new.lists.items))) c.deref-in-AtLeast.ensures.value
    c.add_each-in-AtLeast.ensures.listed)

pub add_operands-returns-in_ok-add_operands-in-Latch-clause-listed : goal.add_operands-returns-in_ok-add_operands-in-Latch-clause-listed
add_operands-returns-in_ok-add_operands-in-Latch-clause-listed t c =
    let tree = ap tree_of c.in-Latch.is ∙ tree_of-Latch c.in-Latch.set c.in-Latch.reset in
    let old = items_of c.args.lists.now.items in
    let mid = items_of c.add_operands-in-Latch.new.lists.items in
    let new = items_of c.add_operands-in-Latch-2.new.lists.items in
    subst (λ (x : Tree). OnOk c.add_operands-in-Latch-2.result (Adds c.args.term (names c.args.sizes x) old new)) (sym tree)
    (on-ok c.add_operands-in-Latch-2.result _ _
    (adds-latch c.args.sizes c.args.term old mid (tree_of c.in-Latch.set.value) (tree_of c.in-Latch.reset.value) new
    (subst (λ (x : Cond). Adds c.args.term (names c.args.sizes (tree_of x)) old mid) c.deref-in-Latch.ensures c.in_ok-add_operands-in-Latch.ensures.listed))
    (subst (λ (x : Cond). OnOk c.add_operands-in-Latch-2.result (Adds c.args.term (names c.args.sizes (tree_of x)) mid new)) c.deref-in-Latch-2.ensures c.add_operands-in-Latch-2.ensures.listed))

pub add_each-add_operands-requires : goal.add_each-add_operands-requires
add_each-add_operands-requires t c = (
  search (rules, the_lemmas, get_or_read),
  (
    c.requires.few,
    (
      c.loop-member.invariant.long ∙ c.requires.lists,
      (within-next c.args.sizes.params c.args.sizes.alerts c.args.members.now c.loop-member.member-index c.member-item.result c.loop-member-test.true c.member-item.is c.loop-member.invariant.within).0,
    ),
  ),
)

pub add_each-loop-member-preserved : goal.add_each-loop-member-preserved
add_each-loop-member-preserved t c = record {
  long = c.in_ok-add_operands.ensures.len ∙ c.loop-member.invariant.long;
  within = (within-next c.args.sizes.params c.args.sizes.alerts c.args.members.now c.loop-member.member-index c.member-item.result c.loop-member-test.true c.member-item.is c.loop-member.invariant.within).1;
  ahead = λ final rest. c.loop-member.invariant.ahead final
      (adds-next c.args.sizes c.args.term (items_of c.loop-member.lists.items) (items_of c.add_operands.new.lists.items) c.args.members.now c.loop-member.member-index c.member-item.result
      c.loop-member-test.true c.member-item.is c.in_ok-add_operands.ensures.listed final rest);
}

pub add_each-returns-clause-listed : goal.add_each-returns-clause-listed
add_each-returns-clause-listed t c =
    c.loop-member.invariant.ahead (items_of c.loop-member.lists.items)
    (adds-end c.args.sizes c.args.term (items_of c.loop-member.lists.items) c.args.members.now c.loop-member.member-index c.loop-member-test.false)
