use Rattle.std.proofs.Common.{◌≡◌, ◌∷◌, Some, refl, subst}
use Rattle.std.proofs.lemmas.Result.{IfOk-weaker}
use Rattle.ecam_spec.specs.Grammar.{name_of}
use Rattle.ecam_spec.specs.TermSize.{nodes, depth}
use Rattle.ecam_spec.specs.TermText.{flaws, tree_of_form}
use Rattle.ecam_spec.proofs.TermReading.{after_step}
use Rattle.term_tree.proofs.Views.{tree_of-Const, tree_of-Press}
use Rattle.term_text.specs.Parts.{parts, JudgesForm, StandFor}
use Rattle.term_text.proofs.OneStep.{put, negation_step, rise_step, confirm_step, hold_step, latch_step, compare_step, phase_step, list_step}
use Rattle.term_text.proofs.build.part_of.Goals as goal

pub returns-in-Constant : goal.returns-in-Constant
unfolding after_step flaws tree_of_form depth nodes
returns-in-Constant g c = λ forms after h named e.
    put (g.D.Dictionary.known c.args.names.now) c.args.text.now c.atom.result _ _ forms after (subst (λ s. after_step s forms ≡ Some after) c.in-Constant.is e) (c.atom.ensures _ refl refl (λ none. tree_of-Const c.in-Constant.value)) h

pub returns-in-Pressed : goal.returns-in-Pressed
unfolding after_step flaws tree_of_form depth nodes
returns-in-Pressed g c = λ forms after h named e.
    put (g.D.Dictionary.known c.args.names.now) c.args.text.now c.atom-in-Pressed.result _ _ forms after (subst (λ s. after_step s forms ≡ Some after) c.in-Pressed.is e) (c.atom-in-Pressed.ensures _ refl refl (λ none. tree_of-Press c.in-Pressed.key)) h

pub returns-in-Named : goal.returns-in-Named
unfolding after_step
returns-in-Named g c = λ forms after h named e.
    let names = g.D.Dictionary.known c.args.names.now in
    let text = c.args.text.now in
    IfOk-weaker c.named.result (λ p. JudgesForm names text p (name_of c.in-Named.name)) (λ p. StandFor names text (p ∷ parts c.args.read.now) after)
    (λ p judged. put names text p _ _ forms after (subst (λ s. after_step s forms ≡ Some after) c.in-Named.is e) judged h) c.named.ensures

pub returns-in-Valid : goal.returns-in-Valid
unfolding after_step flaws tree_of_form depth nodes
returns-in-Valid g c = λ forms after h named e.
    put (g.D.Dictionary.known c.args.names.now) c.args.text.now c.valid.result _ _ forms after (subst (λ s. after_step s forms ≡ Some after) c.in-Valid.is e) c.valid.ensures h

pub returns-in-Alerted : goal.returns-in-Alerted
unfolding after_step flaws tree_of_form depth nodes
returns-in-Alerted g c = λ forms after h named e.
    put (g.D.Dictionary.known c.args.names.now) c.args.text.now c.alerted.result _ _ forms after (subst (λ s. after_step s forms ≡ Some after) c.in-Alerted.is e) c.alerted.ensures h

pub returns-in-Computer : goal.returns-in-Computer
unfolding after_step flaws tree_of_form depth nodes
returns-in-Computer g c = λ forms after h named e.
    put (g.D.Dictionary.known c.args.names.now) c.args.text.now c.computer.result _ _ forms after (subst (λ s. after_step s forms ≡ Some after) c.in-Computer.is e) (c.computer.ensures _) h

pub returns-in-Phase : goal.returns-in-Phase
unfolding after_step flaws tree_of_form depth nodes
returns-in-Phase g c = λ forms after h named e.
    put (g.D.Dictionary.known c.args.names.now) c.args.text.now c.in_phase.result _ _ forms after (subst (λ s. after_step s forms ≡ Some after) c.in-Phase.is e) (c.in_phase.ensures _) h

pub returns-in-Negation : goal.returns-in-Negation
returns-in-Negation g c = λ forms after h named e.
    negation_step (g.D.Dictionary.known c.args.names.now) c.args.text.now c.negated.result c.pop-in-Negation.result (parts c.args.read.now) _ forms after c.pop-in-Negation.ensures c.negated.ensures h (subst (λ s. after_step s forms ≡ Some after) c.in-Negation.is e)

pub returns-in-Risen : goal.returns-in-Risen
returns-in-Risen g c = λ forms after h named e.
    rise_step (g.D.Dictionary.known c.args.names.now) c.args.text.now c.risen.result c.pop-in-Risen.result (parts c.args.read.now) _ forms after c.pop-in-Risen.ensures c.risen.ensures h (subst (λ s. after_step s forms ≡ Some after) c.in-Risen.is e)

pub returns-in-Confirmed : goal.returns-in-Confirmed
returns-in-Confirmed g c = λ forms after h named e.
    confirm_step (g.D.Dictionary.known c.args.names.now) c.args.text.now c.confirmed.result c.in-Confirmed.number c.pop-in-Confirmed.result (parts c.args.read.now) _ forms after c.pop-in-Confirmed.ensures (c.confirmed.ensures _) h (subst (λ s. after_step s forms ≡ Some after) c.in-Confirmed.is e)

pub returns-in-Held : goal.returns-in-Held
returns-in-Held g c = λ forms after h named e.
    hold_step (g.D.Dictionary.known c.args.names.now) c.args.text.now c.held.result c.in-Held.number c.pop-in-Held.result (parts c.args.read.now) _ forms after c.pop-in-Held.ensures (c.held.ensures _) h (subst (λ s. after_step s forms ≡ Some after) c.in-Held.is e)

pub returns-in-Compared : goal.returns-in-Compared
returns-in-Compared g c = λ forms after h named e.
    compare_step (g.D.Dictionary.known c.args.names.now) c.args.text.now c.compared.result c.pop.result c.args.name c.in-Compared.op c.in-Compared.number (parts c.args.read.now) _ forms after c.pop.ensures c.compared.ensures h named
    (subst (λ s. after_step s forms ≡ Some after) c.in-Compared.is e)

pub returns-in-AlsoPhase : goal.returns-in-AlsoPhase
returns-in-AlsoPhase g c = λ forms after h named e.
    phase_step (g.D.Dictionary.known c.args.names.now) c.args.text.now c.also_in_phase.result c.pop-in-AlsoPhase.result c.in-AlsoPhase.number (parts c.args.read.now) _ forms after c.pop-in-AlsoPhase.ensures (c.also_in_phase.ensures _) h
    (subst (λ s. after_step s forms ≡ Some after) c.in-AlsoPhase.is e)

pub returns-in-Latched : goal.returns-in-Latched
returns-in-Latched g c = λ forms after h named e.
    latch_step (g.D.Dictionary.known c.args.names.now) c.args.text.now c.latched.result c.pop-reset.result c.pop-in-Latched.result (parts c.args.read.now) _ _ forms after c.pop-reset.ensures c.pop-in-Latched.ensures c.latched.ensures h
    (subst (λ s. after_step s forms ≡ Some after) c.in-Latched.is e)

pub returns-in_ok-members-in-Over : goal.returns-in_ok-members-in-Over
returns-in_ok-members-in-Over g c = λ forms after h named e.
    list_step (g.D.Dictionary.known c.args.names.now) c.args.text.now c.in_ok-members-in-Over.members c.listed.result c.in-Over.list c.in-Over.count (parts c.args.read.now) _ forms after (λ f fs older gathers. c.in_ok-members-in-Over.ensures _ _ forms older f fs h gathers) (c.listed.ensures _)
    (subst (λ s. after_step s forms ≡ Some after) c.in-Over.is e)
