use Rattle.std.proofs.Common.{◌≡◌, arith, refl, ap, ◌∙◌}
use Rattle.ecam_spec.specs.TermNames.{IsWithin}
use Rattle.ecam_spec.specs.Term.{is_so, stands}
use Rattle.term_tree.specs.View.{tree_of}
use Rattle.term_tree.proofs.Views.{tree_of-Const, tree_of-Disc, tree_of-Valid, tree_of-Cmp, tree_of-InPhase, tree_of-Alert, tree_of-Press, tree_of-Fwc}
use Rattle.std.proofs.lemmas.Int.{to_z-of_z}
use Rattle.term_eval.specs.Shown.{value_of}
use Rattle.term_eval.proofs.Atoms.{steps-constant, steps-discrete, steps-valid, steps-compared, steps-in_phase, steps-alert, steps-press, steps-computer}
use Rattle.term_eval.proofs.Arms.{steps-as, names-of}
use Rattle.term_eval.proofs.leaf.atom.Goals as goal

pub returns-in-Const-clause-steps : goal.returns-in-Const-clause-steps
returns-in-Const-clause-steps c = λ now at cells.
    steps-as _ _ _ _ _ _ _ _ _ _ _ _ (ap tree_of c.in-Const.is ∙ tree_of-Const c.in-Const.truth) refl refl refl (steps-constant c.args.env.now now c.in-Const.truth at cells)

pub returns-in-Disc-clause-steps : goal.returns-in-Disc-clause-steps
unfolding IsWithin
returns-in-Disc-clause-steps c = λ now at cells.
    let tree = ap tree_of c.in-Disc.is ∙ tree_of-Disc c.in-Disc.param in
    steps-as _ _ _ _ _ _ _ _ _ _ _ _ tree refl c.is_one.ensures refl (steps-discrete c.args.env.now now c.in-Disc.param at cells (names-of _ _ _ _ tree c.requires.names))

pub returns-in-Valid-clause-steps : goal.returns-in-Valid-clause-steps
unfolding IsWithin
returns-in-Valid-clause-steps c = λ now at cells.
    let tree = ap tree_of c.in-Valid.is ∙ tree_of-Valid c.in-Valid.param in
    steps-as _ _ _ _ _ _ _ _ _ _ _ _ tree refl c.has_value.ensures refl (steps-valid c.args.env.now now c.in-Valid.param at cells (names-of _ _ _ _ tree c.requires.names))

pub returns-in-Cmp-clause-steps : goal.returns-in-Cmp-clause-steps
unfolding IsWithin
returns-in-Cmp-clause-steps c = λ now at cells.
    let tree = ap tree_of c.in-Cmp.is ∙ tree_of-Cmp c.in-Cmp.param c.in-Cmp.op c.in-Cmp.number in
    let told : c.compares.result ≡ is_so (λ z. stands c.in-Cmp.op z c.in-Cmp.number) (value_of c.args.env.now c.in-Cmp.param) = grind (arith, to_z-of_z) in
    steps-as _ _ _ _ _ _ _ _ _ _ _ _ tree refl told refl (steps-compared c.args.env.now now c.in-Cmp.param c.in-Cmp.op c.in-Cmp.number at cells (names-of _ _ _ _ tree c.requires.names))

pub returns-in-InPhase-clause-steps : goal.returns-in-InPhase-clause-steps
returns-in-InPhase-clause-steps c = λ now at cells.
    let tree = ap tree_of c.in-InPhase.is ∙ tree_of-InPhase c.in-InPhase.phases in
    steps-as _ _ _ _ _ _ _ _ _ _ _ _ tree refl c.has.ensures refl (steps-in_phase c.args.env.now now c.in-InPhase.phases.0 at cells)

pub returns-in-Alert-clause-steps : goal.returns-in-Alert-clause-steps
unfolding IsWithin
returns-in-Alert-clause-steps c = λ now at cells.
    let tree = ap tree_of c.in-Alert.is ∙ tree_of-Alert c.in-Alert.alert in
    steps-as _ _ _ _ _ _ _ _ _ _ _ _ tree refl c.is_active.ensures refl (steps-alert c.args.env.now now c.in-Alert.alert at cells (names-of _ _ _ _ tree c.requires.names))

pub returns-in-Press-clause-steps : goal.returns-in-Press-clause-steps
unfolding IsWithin
returns-in-Press-clause-steps c = λ now at cells.
    let tree = ap tree_of c.in-Press.is ∙ tree_of-Press c.in-Press.key in
    steps-as _ _ _ _ _ _ _ _ _ _ _ _ tree refl c.pressed.ensures refl (steps-press c.args.env.now now c.in-Press.key at cells (names-of _ _ _ _ tree c.requires.names))

pub returns-in-Fwc-clause-steps : goal.returns-in-Fwc-clause-steps
unfolding IsWithin
returns-in-Fwc-clause-steps c = λ now at cells.
    let tree = ap tree_of c.in-Fwc.is ∙ tree_of-Fwc c.in-Fwc.computer in
    let known = names-of _ _ _ _ tree c.requires.names in
    steps-as _ _ _ _ _ _ _ _ _ _ _ _ tree refl c.is_up.ensures refl (steps-computer c.args.env.now now c.in-Fwc.computer at cells known.0 known.1)
