use Rattle.std.proofs.Common.{◌+◌, false, [], ◌∷◌, drop, sym, subst}
use Rattle.ecam_spec.specs.declared.terms.Span.{Span}
use Rattle.ecam_spec.specs.declared.term_steps.Step.TheVariants as kinds
use Rattle.ecam_spec.specs.TermText.{judged, earliest, flaws, tree_of_form}
use Rattle.term_text.specs.Parts.{parts, JudgesForm}
use Rattle.term_text.proofs.AllSteps.{Reaches, step_made, steps_made}
use Rattle.term_text.proofs.Taken.{top_of}
use Rattle.term_text.proofs.build.condition_of.Goals as goal

pub loop-step-preserved : goal.loop-step-preserved
loop-step-preserved g c = λ last e.
    let names = g.D.Dictionary.known c.args.names.now in
    let text = c.args.text.now in
    let steps = c.args.steps.now in
    let i = c.loop-step.step-index in
    let made = step_made names text (parts c.loop-step.read) (parts c.apply.new.read) c.loop-step.name (kinds.Constant false) steps i last c.loop-step-test.true c.in_ok-apply.ensures (c.loop-step.invariant last e) in
    subst (λ (n : Span). Reaches names text (parts c.apply.new.read) n (drop (i + 1) steps) last) (sym c.last_name-name.ensures) made

pub returns : goal.returns
unfolding judged
returns g c = λ f e.
    let names = g.D.Dictionary.known c.args.names.now in
    let text = c.args.text.now in
    let stand = steps_made names text (parts c.loop-step.read) c.loop-step.name c.args.steps.now c.loop-step.step-index (f ∷ []) c.loop-step-test.false (c.loop-step.invariant (f ∷ []) e) in
    let top = top_of names text (parts c.loop-step.read) f [] stand in
    let is = c.pop.ensures top.part top.rest top.is in
    c.judged.ensures names text (earliest (flaws names text f)) (tree_of_form names text f) (subst (λ p. JudgesForm names text p f) (sym is.0) top.judged)
