use Rattle.std.proofs.Common.{rules, ◌≡◌, ℕ, ◌+◌, ◌-◌, ◌^◌, ◌<◌, min, List, length, map, drop, eqb, arith, refl, add-zero, ap, sym, ◌∙◌, subst}
use Rattle.ecam_spec.specs.TermSize.{slots, nodes, nodes_of}
use Rattle.ecam_spec.specs.TermNames.{IsWithin}
use borrow.Author.Rules.{get_or_read}
use Rattle.term_tree.specs.declared.cond.Cond.TheFolds.{the_lemmas}
use Rattle.term_tree.specs.View.{tree_of, trees_of}
use Rattle.term_tree.proofs.Views.{tree_of-Const, tree_of-Disc, tree_of-Valid, tree_of-Cmp, tree_of-InPhase, tree_of-Alert, tree_of-Press, tree_of-Fwc, tree_of-Not, tree_of-All, tree_of-Any, tree_of-AtLeast, tree_of-Conf, tree_of-Hold, tree_of-Rise, tree_of-Latch}
use Rattle.term_tree.proofs.Members.{trees_of-end, trees_of-next, slots-end, slots-next}
use Rattle.std.proofs.lemmas.Int.{to_z-of_z}
use Rattle.std.proofs.lemmas.List.{length-map}
use Rattle.std.proofs.Math.Seq.{map-set_same}
use Rattle.ecam_spec.specs.Term.{is_so, stands}
use Rattle.term_eval.specs.CellWords.{never}
use Rattle.term_eval.specs.Shown.{value_of}
use Rattle.std.specs.Option.{IfSome}
use Rattle.term_eval.specs.declared.memory.Cell.{Cell}
use Rattle.term_eval.specs.declared.turn.Turn.{Turn}
use Rattle.term_eval.specs.declared.slot.Slot.{Slot}
use Rattle.term_eval.specs.Slots.{wakes_of, cells_of, owners_of, empty}
use Rattle.term_eval.specs.Steps.{Steps, StepsAll}
use Rattle.term_eval.proofs.Slots.{cell-set, cell-at}
use Rattle.term_eval.proofs.NodeSteps.{steps-negation}
use Rattle.term_eval.proofs.Members.{steps-none, steps-more, steps-all, steps-any, steps-at_least}
use Rattle.term_eval.proofs.Atoms.{steps-constant, steps-discrete, steps-valid, steps-compared, steps-in_phase, steps-alert, steps-press, steps-computer}
use Rattle.term_eval.proofs.Arms.{steps-as, steps_all-as, names-of, names_of_all, arm-confirmed, arm-held, arm-risen, arm-latched}
use Rattle.term_eval.proofs.Members.{one_if}
use Rattle.term_eval.proofs.walk.+walk.Goals as goal
use Rattle.term_eval.proofs.walk.+walk.Goals.{step_each-then-turn, step_each-else-turn, step_each-in-Some, step_each-in-None}

pub step-returns-in-Const-clause-steps : goal.step-returns-in-Const-clause-steps
step-returns-in-Const-clause-steps t c =
    let tree = ap tree_of c.in-Const.is ∙ tree_of-Const c.in-Const.truth in
    steps-as _ _ _ _ _ _ _ _ _ _ _ _ tree refl c.lasting.ensures.holds c.lasting.ensures.due (steps-constant c.args.env.now c.args.now c.in-Const.truth c.args.next.now (cells_of c.args.kept.now))

pub step-returns-in-Disc-clause-steps : goal.step-returns-in-Disc-clause-steps
unfolding IsWithin
step-returns-in-Disc-clause-steps t c =
    let tree = ap tree_of c.in-Disc.is ∙ tree_of-Disc c.in-Disc.param in
    steps-as _ _ _ _ _ _ _ _ _ _ _ _ tree refl (c.lasting-in-Disc.ensures.holds ∙ c.is_one.ensures) c.lasting-in-Disc.ensures.due (steps-discrete c.args.env.now c.args.now c.in-Disc.param c.args.next.now (cells_of c.args.kept.now) (names-of _ _ _ _ tree c.requires.names))

pub step-returns-in-Valid-clause-steps : goal.step-returns-in-Valid-clause-steps
unfolding IsWithin
step-returns-in-Valid-clause-steps t c =
    let tree = ap tree_of c.in-Valid.is ∙ tree_of-Valid c.in-Valid.param in
    steps-as _ _ _ _ _ _ _ _ _ _ _ _ tree refl (c.lasting-in-Valid.ensures.holds ∙ c.has_value.ensures) c.lasting-in-Valid.ensures.due (steps-valid c.args.env.now c.args.now c.in-Valid.param c.args.next.now (cells_of c.args.kept.now) (names-of _ _ _ _ tree c.requires.names))

pub step-returns-in-Cmp-clause-steps : goal.step-returns-in-Cmp-clause-steps
unfolding IsWithin
step-returns-in-Cmp-clause-steps t c =
    let tree = ap tree_of c.in-Cmp.is ∙ tree_of-Cmp c.in-Cmp.param c.in-Cmp.op c.in-Cmp.number in
    let told : c.compares.result ≡ is_so (λ z. stands c.in-Cmp.op z c.in-Cmp.number) (value_of c.args.env.now c.in-Cmp.param) = grind (arith, to_z-of_z) in
    steps-as _ _ _ _ _ _ _ _ _ _ _ _ tree refl (c.lasting-in-Cmp.ensures.holds ∙ told) c.lasting-in-Cmp.ensures.due (steps-compared c.args.env.now c.args.now c.in-Cmp.param c.in-Cmp.op c.in-Cmp.number c.args.next.now (cells_of c.args.kept.now) (names-of _ _ _ _ tree c.requires.names))

pub step-returns-in-InPhase-clause-steps : goal.step-returns-in-InPhase-clause-steps
step-returns-in-InPhase-clause-steps t c =
    let tree = ap tree_of c.in-InPhase.is ∙ tree_of-InPhase c.in-InPhase.phases in
    steps-as _ _ _ _ _ _ _ _ _ _ _ _ tree refl (c.lasting-in-InPhase.ensures.holds ∙ c.has.ensures) c.lasting-in-InPhase.ensures.due (steps-in_phase c.args.env.now c.args.now c.in-InPhase.phases.0 c.args.next.now (cells_of c.args.kept.now))

pub step-returns-in-Alert-clause-steps : goal.step-returns-in-Alert-clause-steps
unfolding IsWithin
step-returns-in-Alert-clause-steps t c =
    let tree = ap tree_of c.in-Alert.is ∙ tree_of-Alert c.in-Alert.alert in
    steps-as _ _ _ _ _ _ _ _ _ _ _ _ tree refl (c.lasting-in-Alert.ensures.holds ∙ c.is_active.ensures) c.lasting-in-Alert.ensures.due (steps-alert c.args.env.now c.args.now c.in-Alert.alert c.args.next.now (cells_of c.args.kept.now) (names-of _ _ _ _ tree c.requires.names))

pub step-returns-in-Press-clause-steps : goal.step-returns-in-Press-clause-steps
unfolding IsWithin
step-returns-in-Press-clause-steps t c =
    let tree = ap tree_of c.in-Press.is ∙ tree_of-Press c.in-Press.key in
    steps-as _ _ _ _ _ _ _ _ _ _ _ _ tree refl (c.lasting-in-Press.ensures.holds ∙ c.pressed.ensures) c.lasting-in-Press.ensures.due (steps-press c.args.env.now c.args.now c.in-Press.key c.args.next.now (cells_of c.args.kept.now) (names-of _ _ _ _ tree c.requires.names))

pub step-returns-in-Fwc-clause-steps : goal.step-returns-in-Fwc-clause-steps
unfolding IsWithin
step-returns-in-Fwc-clause-steps t c =
    let tree = ap tree_of c.in-Fwc.is ∙ tree_of-Fwc c.in-Fwc.computer in
    let known = names-of _ _ _ _ tree c.requires.names in
    steps-as _ _ _ _ _ _ _ _ _ _ _ _ tree refl (c.lasting-in-Fwc.ensures.holds ∙ c.is_up.ensures) c.lasting-in-Fwc.ensures.due (steps-computer c.args.env.now c.args.now c.in-Fwc.computer c.args.next.now (cells_of c.args.kept.now) known.0 known.1)

pub step-returns-in-Not-clause-steps : goal.step-returns-in-Not-clause-steps
step-returns-in-Not-clause-steps t c =
    let tree = ap tree_of c.in-Not.is ∙ tree_of-Not c.in-Not.of in
    steps-as _ _ _ _ _ _ _ _ _ _ _ _ tree refl refl refl (steps-negation _ _ _ _ _ _ _ _ (steps-as _ _ _ _ _ _ _ _ _ _ _ _ (ap tree_of (sym c.deref.ensures)) refl refl refl c.step-inner.ensures.steps))

pub step-returns-in-All-clause-steps : goal.step-returns-in-All-clause-steps
step-returns-in-All-clause-steps t c =
    let tree = ap tree_of c.in-All.is ∙ tree_of-All c.in-All.members in
    let steps = steps_all-as _ _ _ _ _ _ _ _ _ _ (ap trees_of (sym c.deref-in-All.ensures.value)) refl c.step_each-tally.ensures.steps in
    steps-as _ _ _ _ _ _ _ _ _ _ _ _ tree refl (ap (λ n. eqb c.step_each-tally.result.count n) (c.len.ensures ∙ c.in-All.members.ok.0 ∙ sym (length-map c.in-All.members.items tree_of))) refl
    (steps-all _ _ (map tree_of c.in-All.members.items) _ _ _ _ _ steps)

pub step-returns-in-Any-clause-steps : goal.step-returns-in-Any-clause-steps
step-returns-in-Any-clause-steps t c =
    let tree = ap tree_of c.in-Any.is ∙ tree_of-Any c.in-Any.members in
    let steps = steps_all-as _ _ _ _ _ _ _ _ _ _ (ap trees_of (sym c.deref-in-Any.ensures.value)) refl c.step_each-tally-in-Any.ensures.steps in
    steps-as _ _ _ _ _ _ _ _ _ _ _ _ tree refl refl refl (steps-any _ _ _ _ _ _ _ _ steps)

pub step-returns-in-AtLeast-clause-steps : goal.step-returns-in-AtLeast-clause-steps
step-returns-in-AtLeast-clause-steps t c =
    let tree = ap tree_of c.in-AtLeast.is ∙ tree_of-AtLeast c.in-AtLeast.least c.in-AtLeast.members in
    let steps = steps_all-as _ _ _ _ _ _ _ _ _ _ (ap trees_of (sym c.deref-in-AtLeast.ensures.value)) refl c.step_each-tally-in-AtLeast.ensures.steps in
    steps-as _ _ _ _ _ _ _ _ _ _ _ _ tree refl refl refl (steps-at_least _ _ c.in-AtLeast.least _ _ _ _ _ _ steps)

pub step-returns-in-Conf-clause-steps : goal.step-returns-in-Conf-clause-steps
unfolding slots
step-returns-in-Conf-clause-steps t c =
    let tree = ap tree_of c.in-Conf.is ∙ tree_of-Conf c.in-Conf.of c.in-Conf.moments in
    let inner = steps-as _ _ _ _ _ _ _ _ _ _ _ _ (ap tree_of (sym c.deref-in-Conf.ensures)) (sym c.take_slot-own.ensures.next) refl refl c.step-inner-in-Conf.ensures.steps in
    let size : slots (tree_of c.args.cond.now) ≡ slots (tree_of c.in-Conf.of.value) + 1 = ap slots tree in
    let long = length-map c.step-inner-in-Conf.new.kept (λ (s : Slot). s.cell) in
    let within : c.args.next.now < length (cells_of c.step-inner-in-Conf.new.kept) = omega (arith, long) in
    let there : c.take_slot-own.result < length c.step-inner-in-Conf.new.kept = omega (arith, long, c.take_slot-own.ensures.own) in
    subst (λ cells. Steps c.args.env.now c.args.now (tree_of c.args.cond.now) c.args.next.now (cells_of c.args.kept.now) cells c.sooner.result.holds c.sooner.result.due)
    (sym (cell-set c.step-inner-in-Conf.new.kept c.take_slot-own.result _))
    (arm-confirmed c.args.env.now c.args.now _ (tree_of c.in-Conf.of.value) c.in-Conf.moments _ _ _ _ _ _ _ _ _ _ _ c.requires.now c.confirm.ensures.few tree c.take_slot-own.ensures.own within (sym (cell-at c.step-inner-in-Conf.new.kept c.take_slot-own.result there)) inner
    (c.sooner.ensures.holds ∙ c.confirm.ensures.truth) c.confirm.ensures.cell c.confirm.ensures.due c.sooner.ensures.due)

pub step-returns-in-Conf-clause-wakes : goal.step-returns-in-Conf-clause-wakes
step-returns-in-Conf-clause-wakes t c =
    map-set_same (λ (s : Slot). s.wake) c.step-inner-in-Conf.new.kept c.take_slot-own.result _ empty refl ∙ c.step-inner-in-Conf.ensures.wakes

pub step-returns-in-Conf-clause-owners : goal.step-returns-in-Conf-clause-owners
step-returns-in-Conf-clause-owners t c =
    map-set_same (λ (s : Slot). s.owner) c.step-inner-in-Conf.new.kept c.take_slot-own.result _ empty refl ∙ c.step-inner-in-Conf.ensures.owners

pub step-returns-in-Hold-clause-steps : goal.step-returns-in-Hold-clause-steps
unfolding slots
step-returns-in-Hold-clause-steps t c =
    let tree = ap tree_of c.in-Hold.is ∙ tree_of-Hold c.in-Hold.of c.in-Hold.moments in
    let inner = steps-as _ _ _ _ _ _ _ _ _ _ _ _ (ap tree_of (sym c.deref-in-Hold.ensures)) (sym c.take_slot-own-in-Hold.ensures.next) refl refl c.step-inner-in-Hold.ensures.steps in
    let size : slots (tree_of c.args.cond.now) ≡ slots (tree_of c.in-Hold.of.value) + 1 = ap slots tree in
    let long = length-map c.step-inner-in-Hold.new.kept (λ (s : Slot). s.cell) in
    let within : c.args.next.now < length (cells_of c.step-inner-in-Hold.new.kept) = omega (arith, long) in
    let there : c.take_slot-own-in-Hold.result < length c.step-inner-in-Hold.new.kept = omega (arith, long, c.take_slot-own-in-Hold.ensures.own) in
    subst (λ cells. Steps c.args.env.now c.args.now (tree_of c.args.cond.now) c.args.next.now (cells_of c.args.kept.now) cells c.sooner-in-Hold.result.holds c.sooner-in-Hold.result.due)
    (sym (cell-set c.step-inner-in-Hold.new.kept c.take_slot-own-in-Hold.result _))
    (arm-held c.args.env.now c.args.now _ (tree_of c.in-Hold.of.value) c.in-Hold.moments _ _ _ _ _ _ _ _ _ _ _ c.requires.now c.hold.ensures.few tree c.take_slot-own-in-Hold.ensures.own within (sym (cell-at c.step-inner-in-Hold.new.kept c.take_slot-own-in-Hold.result there)) inner
    (c.sooner-in-Hold.ensures.holds ∙ c.hold.ensures.truth) c.hold.ensures.cell c.hold.ensures.due c.sooner-in-Hold.ensures.due)

pub step-returns-in-Hold-clause-wakes : goal.step-returns-in-Hold-clause-wakes
step-returns-in-Hold-clause-wakes t c =
    map-set_same (λ (s : Slot). s.wake) c.step-inner-in-Hold.new.kept c.take_slot-own-in-Hold.result _ empty refl ∙ c.step-inner-in-Hold.ensures.wakes

pub step-returns-in-Hold-clause-owners : goal.step-returns-in-Hold-clause-owners
step-returns-in-Hold-clause-owners t c =
    map-set_same (λ (s : Slot). s.owner) c.step-inner-in-Hold.new.kept c.take_slot-own-in-Hold.result _ empty refl ∙ c.step-inner-in-Hold.ensures.owners

pub step-returns-in-Rise-clause-steps : goal.step-returns-in-Rise-clause-steps
unfolding slots
step-returns-in-Rise-clause-steps t c =
    let tree = ap tree_of c.in-Rise.is ∙ tree_of-Rise c.in-Rise.of in
    let inner = steps-as _ _ _ _ _ _ _ _ _ _ _ _ (ap tree_of (sym c.deref-in-Rise.ensures)) (sym c.take_slot-own-in-Rise.ensures.next) refl refl c.step-inner-in-Rise.ensures.steps in
    let size : slots (tree_of c.args.cond.now) ≡ slots (tree_of c.in-Rise.of.value) + 1 = ap slots tree in
    let long = length-map c.step-inner-in-Rise.new.kept (λ (s : Slot). s.cell) in
    let within : c.args.next.now < length (cells_of c.step-inner-in-Rise.new.kept) = omega (arith, long) in
    let there : c.take_slot-own-in-Rise.result < length c.step-inner-in-Rise.new.kept = omega (arith, long, c.take_slot-own-in-Rise.ensures.own) in
    subst (λ cells. Steps c.args.env.now c.args.now (tree_of c.args.cond.now) c.args.next.now (cells_of c.args.kept.now) cells c.sooner-in-Rise.result.holds c.sooner-in-Rise.result.due)
    (sym (cell-set c.step-inner-in-Rise.new.kept c.take_slot-own-in-Rise.result _))
    (arm-risen c.args.env.now c.args.now _ (tree_of c.in-Rise.of.value) _ _ _ _ _ _ _ _ _ _ _ c.requires.now tree c.take_slot-own-in-Rise.ensures.own within (sym (cell-at c.step-inner-in-Rise.new.kept c.take_slot-own-in-Rise.result there)) inner
    (c.sooner-in-Rise.ensures.holds ∙ c.rise.ensures.truth) c.rise.ensures.cell c.rise.ensures.due c.sooner-in-Rise.ensures.due)

pub step-returns-in-Rise-clause-wakes : goal.step-returns-in-Rise-clause-wakes
step-returns-in-Rise-clause-wakes t c =
    map-set_same (λ (s : Slot). s.wake) c.step-inner-in-Rise.new.kept c.take_slot-own-in-Rise.result _ empty refl ∙ c.step-inner-in-Rise.ensures.wakes

pub step-returns-in-Rise-clause-owners : goal.step-returns-in-Rise-clause-owners
step-returns-in-Rise-clause-owners t c =
    map-set_same (λ (s : Slot). s.owner) c.step-inner-in-Rise.new.kept c.take_slot-own-in-Rise.result _ empty refl ∙ c.step-inner-in-Rise.ensures.owners

pub step-returns-in-Latch-clause-steps : goal.step-returns-in-Latch-clause-steps
unfolding slots
step-returns-in-Latch-clause-steps t c =
    let tree = ap tree_of c.in-Latch.is ∙ tree_of-Latch c.in-Latch.set c.in-Latch.reset in
    let first = steps-as _ _ _ _ _ _ _ _ _ _ _ _ (ap tree_of (sym c.deref-in-Latch.ensures)) (sym c.take_slot-own-in-Latch.ensures.next) refl refl c.step-set.ensures.steps in
    let size : slots (tree_of c.args.cond.now) ≡ slots (tree_of c.in-Latch.set.value) + slots (tree_of c.in-Latch.reset.value) + 1 = ap slots tree in
    let set : slots (tree_of c.deref-in-Latch.result.now) ≡ slots (tree_of c.in-Latch.set.value) = ap (λ t. slots (tree_of t)) c.deref-in-Latch.ensures in
    let place : c.args.next.now + 1 + slots (tree_of c.in-Latch.set.value) ≡ c.step-set.new.next = omega arith in
    let second = steps-as _ _ _ _ _ _ _ _ _ _ _ _ (ap tree_of (sym c.deref-in-Latch-2.ensures)) place refl refl c.step-reset.ensures.steps in
    let long = length-map c.step-reset.new.kept (λ (s : Slot). s.cell) in
    let within : c.args.next.now < length (cells_of c.step-reset.new.kept) = omega (arith, long) in
    let there : c.take_slot-own-in-Latch.result < length c.step-reset.new.kept = omega (arith, long, c.take_slot-own-in-Latch.ensures.own) in
    subst (λ cells. Steps c.args.env.now c.args.now (tree_of c.args.cond.now) c.args.next.now (cells_of c.args.kept.now) cells c.latch-holds.result c.min.result)
    (sym (cell-set c.step-reset.new.kept c.take_slot-own-in-Latch.result _))
    (arm-latched c.args.env.now c.args.now _ (tree_of c.in-Latch.set.value) (tree_of c.in-Latch.reset.value) _ _ _ _ _ _ _ _ _ _ _ _ _ tree c.take_slot-own-in-Latch.ensures.own within (sym (cell-at c.step-reset.new.kept c.take_slot-own-in-Latch.result there)) first second c.latch-holds.ensures.truth c.latch-holds.ensures.cell c.min.ensures)

pub step-returns-in-Latch-clause-wakes : goal.step-returns-in-Latch-clause-wakes
step-returns-in-Latch-clause-wakes t c =
    map-set_same (λ (s : Slot). s.wake) c.step-reset.new.kept c.take_slot-own-in-Latch.result _ empty refl ∙ c.step-reset.ensures.wakes ∙ c.step-set.ensures.wakes

pub step-returns-in-Latch-clause-owners : goal.step-returns-in-Latch-clause-owners
step-returns-in-Latch-clause-owners t c =
    map-set_same (λ (s : Slot). s.owner) c.step-reset.new.kept c.take_slot-own-in-Latch.result _ empty refl ∙ c.step-reset.ensures.owners ∙ c.step-set.ensures.owners

pub step_inner-returns-in-All-clause-steps : goal.step_inner-returns-in-All-clause-steps
step_inner-returns-in-All-clause-steps t c =
    let tree = ap tree_of c.in-All.is ∙ tree_of-All c.in-All.members in
    let steps = steps_all-as _ _ _ _ _ _ _ _ _ _ (ap trees_of (sym c.deref.ensures.value)) refl c.step_each-tally.ensures.steps in
    steps-as _ _ _ _ _ _ _ _ _ _ _ _ tree refl (ap (λ n. eqb c.step_each-tally.result.count n) (c.len.ensures ∙ c.in-All.members.ok.0 ∙ sym (length-map c.in-All.members.items tree_of))) refl
    (steps-all _ _ (map tree_of c.in-All.members.items) _ _ _ _ _ steps)

pub step_inner-returns-in-Any-clause-steps : goal.step_inner-returns-in-Any-clause-steps
step_inner-returns-in-Any-clause-steps t c =
    let tree = ap tree_of c.in-Any.is ∙ tree_of-Any c.in-Any.members in
    let steps = steps_all-as _ _ _ _ _ _ _ _ _ _ (ap trees_of (sym c.deref-in-Any.ensures.value)) refl c.step_each-tally-in-Any.ensures.steps in
    steps-as _ _ _ _ _ _ _ _ _ _ _ _ tree refl refl refl (steps-any _ _ _ _ _ _ _ _ steps)

pub step_inner-returns-in-AtLeast-clause-steps : goal.step_inner-returns-in-AtLeast-clause-steps
step_inner-returns-in-AtLeast-clause-steps t c =
    let tree = ap tree_of c.in-AtLeast.is ∙ tree_of-AtLeast c.in-AtLeast.least c.in-AtLeast.members in
    let steps = steps_all-as _ _ _ _ _ _ _ _ _ _ (ap trees_of (sym c.deref-in-AtLeast.ensures.value)) refl c.step_each-tally-in-AtLeast.ensures.steps in
    steps-as _ _ _ _ _ _ _ _ _ _ _ _ tree refl refl refl (steps-at_least _ _ c.in-AtLeast.least _ _ _ _ _ _ steps)

pub step_each-step_inner-turn-requires : goal.step_each-step_inner-turn-requires
unfolding IsWithin
step_each-step_inner-turn-requires t c =
    let next = trees_of-next c.args.members.now c.loop-member.member-index c.member-item.result c.loop-member-test.true c.member-item.is in
    let size = slots-next c.args.members.now c.loop-member.member-index c.member-item.result c.loop-member-test.true c.member-item.is in
    (search (rules, the_lemmas, get_or_read), (omega arith, ((names_of_all _ _ _ _ next c.loop-member.invariant.names).0, (c.requires.first, (c.requires.last, c.requires.now)))))

pub step_each-atom-requires-clause-names : goal.step_each-atom-requires-clause-names
unfolding IsWithin
step_each-atom-requires-clause-names t c =
    let next = trees_of-next c.args.members.now c.loop-member.member-index c.member-item.result c.loop-member-test.true c.member-item.is in
    (names_of_all _ _ _ _ next c.loop-member.invariant.names).0

pub step_each-loop-member-preserved : goal.step_each-loop-member-preserved
unfolding IsWithin nodes
step_each-loop-member-preserved t c =
    let next = trees_of-next c.args.members.now c.loop-member.member-index c.member-item.result c.loop-member-test.true c.member-item.is in
    let size = slots-next c.args.members.now c.loop-member.member-index c.member-item.result c.loop-member-test.true c.member-item.is in
    let more : nodes_of (trees_of (drop c.loop-member.member-index c.args.members.now)) ≡ nodes (tree_of c.member-item.result) + nodes_of (trees_of (drop (c.loop-member.member-index + 1) c.args.members.now)) = ap nodes_of next in
    let item = tree_of c.member-item.result in
    let stepped : c.match-atom.next ≡ c.loop-member.next + slots item =
    elim c.match-atom.branch [
      | step_each-in-Some w ↦ let none = subst (λ o. IfSome o (λ h. slots item ≡ 0)) w.in-Some.is c.atom.ensures.slots in omega (arith, w.next-is, none)
      | step_each-in-None w ↦ w.next-is ∙ w.step_inner-turn.ensures.next
    ] in
    let visited : c.match-atom.visits ≡ min (c.loop-member.visits + nodes item) (2 ^ 64 - 1) =
    elim c.match-atom.branch [
      | step_each-in-Some w ↦ let one = subst (λ o. IfSome o (λ h. nodes item ≡ 1)) w.in-Some.is c.atom.ensures.nodes in omega (arith, w.visits-is, w.visit-turn.ensures.visits, one)
      | step_each-in-None w ↦ w.visits-is ∙ w.step_inner-turn.ensures.visits
    ] in
    let steps : Steps c.args.env.now c.args.now item c.loop-member.next (cells_of c.loop-member.kept) (cells_of c.match-atom.kept) c.match-atom.turn.holds c.match-atom.turn.due =
    elim c.match-atom.branch [
      | step_each-in-Some w ↦
          let holds = ap (λ (t : Turn). t.holds) w.turn-is ∙ w.visit-turn.ensures.holds in
          let due = ap (λ (t : Turn). t.due) w.turn-is ∙ w.visit-turn.ensures.due in
          let own = subst (λ o. IfSome o (λ h. (k at : ℕ) (cells : List Cell) → Steps c.args.env.now k item at cells cells h never)) w.in-Some.is c.atom.ensures.steps in
          subst (λ cells. Steps c.args.env.now c.args.now item c.loop-member.next (cells_of c.loop-member.kept) cells c.match-atom.turn.holds c.match-atom.turn.due) (sym (ap cells_of w.kept-is))
          (steps-as _ _ _ _ _ _ _ _ _ _ _ _ refl refl holds due (own c.args.now c.loop-member.next (cells_of c.loop-member.kept)))
      | step_each-in-None w ↦
          subst (λ cells. Steps c.args.env.now c.args.now item c.loop-member.next (cells_of c.loop-member.kept) cells c.match-atom.turn.holds c.match-atom.turn.due) (sym (ap cells_of w.kept-is))
          (steps-as _ _ _ _ _ _ _ _ _ _ _ _ refl refl (ap (λ (t : Turn). t.holds) w.turn-is) (ap (λ (t : Turn). t.due) w.turn-is) w.step_inner-turn.ensures.steps)
    ] in
    let grown : c.if-turn.count ≡ c.loop-member.count + one_if c.match-atom.turn.holds
    = elim c.if-turn.branch [ step_each-then-turn w ↦ w.count-is ∙ ap (λ b. c.loop-member.count + one_if b) (sym w.if-turn.true) | step_each-else-turn w ↦ w.count-is ∙ sym (add-zero c.loop-member.count) ∙ ap (λ b. c.loop-member.count + one_if b) (sym w.if-turn.false) ]
    in
    record {
      place = omega (arith, stepped);
      names = (names_of_all _ _ _ _ next c.loop-member.invariant.names).1;
      few = elim c.if-turn.branch [ step_each-then-turn w ↦ omega arith | step_each-else-turn w ↦ omega arith ];
      counted = omega (arith, visited);
      most = omega (arith, visited);
      wakes = elim c.match-atom.branch [
        | step_each-in-Some w ↦ ap wakes_of w.kept-is ∙ c.loop-member.invariant.wakes
        | step_each-in-None w ↦ ap wakes_of w.kept-is ∙ w.step_inner-turn.ensures.wakes ∙ c.loop-member.invariant.wakes
      ];
      owners = elim c.match-atom.branch [
        | step_each-in-Some w ↦ ap owners_of w.kept-is ∙ c.loop-member.invariant.owners
        | step_each-in-None w ↦ ap owners_of w.kept-is ∙ w.step_inner-turn.ensures.owners ∙ c.loop-member.invariant.owners
      ];
      latest = omega arith;
      ahead = λ final rest later bound h.
          let behind = steps_all-as _ _ _ _ _ _ _ _ _ _ refl (sym stepped) h in
          let both = steps-more _ _ (tree_of c.member-item.result) _ _ _ _ final _ rest _ later steps behind in
          let total : c.loop-member.count + (one_if c.match-atom.turn.holds + rest) ≡ c.if-turn.count + rest = omega arith in
          let least : c.min-due.result ≡ min c.loop-member.due c.match-atom.turn.due = c.min-due.ensures in
          let first : min c.loop-member.due (min c.match-atom.turn.due later) ≡ min c.min-due.result later = omega arith in
          subst (λ n. StepsAll c.args.env.now c.args.now (trees_of c.args.members.now) c.args.next.now (cells_of c.args.kept.now) final n (min c.min-due.result later)) total
          (subst (λ n. StepsAll c.args.env.now c.args.now (trees_of c.args.members.now) c.args.next.now (cells_of c.args.kept.now) final (c.loop-member.count + (one_if c.match-atom.turn.holds + rest)) n) first
          (c.loop-member.invariant.ahead final (one_if c.match-atom.turn.holds + rest) (min c.match-atom.turn.due later) (omega arith) (steps_all-as _ _ _ _ _ _ _ _ _ _ next refl both)));
    }

pub step_each-returns-clause-next : goal.step_each-returns-clause-next
step_each-returns-clause-next t c =
    let end = slots-end c.args.members.now c.loop-member.member-index c.loop-member-test.false in
    omega arith

pub step_each-returns-clause-visits : goal.step_each-returns-clause-visits
unfolding nodes
step_each-returns-clause-visits t c =
    let end : nodes_of (trees_of (drop c.loop-member.member-index c.args.members.now)) ≡ 0 = ap nodes_of (trees_of-end c.args.members.now c.loop-member.member-index c.loop-member-test.false) in
    omega arith

pub step_each-returns-clause-steps : goal.step_each-returns-clause-steps
step_each-returns-clause-steps t c =
    let end = trees_of-end c.args.members.now c.loop-member.member-index c.loop-member-test.false in
    let nothing = steps_all-as _ _ _ _ _ _ _ _ _ _ end refl (steps-none c.args.env.now c.args.now c.loop-member.next (cells_of c.loop-member.kept)) in
    let bound : min c.loop-member.due never ≡ c.loop-member.due = omega arith in
    subst (λ n. StepsAll c.args.env.now c.args.now (trees_of c.args.members.now) c.args.next.now (cells_of c.args.kept.now) (cells_of c.loop-member.kept) n c.loop-member.due) (add-zero c.loop-member.count)
    (subst (λ n. StepsAll c.args.env.now c.args.now (trees_of c.args.members.now) c.args.next.now (cells_of c.args.kept.now) (cells_of c.loop-member.kept) (c.loop-member.count + 0) n) bound
    (c.loop-member.invariant.ahead (cells_of c.loop-member.kept) 0 never (omega arith) nothing))
