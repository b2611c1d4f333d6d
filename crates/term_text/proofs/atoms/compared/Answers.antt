use Rattle.std.proofs.Common.{rules, ◌≡◌, to_z, of_z, w64, refl, sym, ap, ◌∙◌}
use Rattle.ecam_spec.specs.Book.{compared}
use Rattle.ecam_spec.specs.TermSize.{nodes, depth}
use Rattle.ecam_spec.specs.TermText.{earliest, flaws, name_flaw, compared_flaw, parameter_of, tree_of_form}
use Rattle.term_tree.specs.declared.cond.Cond.TheVariants.{Cmp}
use Rattle.term_tree.specs.View.{tree_of}
use Rattle.term_tree.proofs.Views.{tree_of-Cmp}
use Rattle.term_text.specs.Flaws.{flaw_in, earlier_of}
use Rattle.term_text.proofs.Flawed.{earliest-append}
use Rattle.term_text.proofs.Judged.{atom_judged, none_both}
use Rattle.term_text.proofs.atoms.compared.Goals as goal

pub returns : goal.returns
unfolding flaws tree_of_form depth nodes
returns g c =
    let names = g.D.Dictionary.known c.args.names.now in
    let text = c.args.text.now in
    let op = c.args.op in
    let param = c.param_at-param in
    let number = c.compared_at-number in
    let own = name_flaw names text names.parameters c.args.name in
    let other = compared_flaw names text c.args.number in
    let back : to_z w64 (of_z w64 number.result.value) ≡ number.result.value = search rules in
    let wrong = c.earlier_of-flaw.ensures ∙ ap (λ w. earlier_of w (flaw_in number.result.flaw)) param.ensures.flaw ∙ ap (earlier_of (earliest own)) (number.ensures.flaw names) ∙ sym (earliest-append own other) in
    atom_judged c.atom.result _ _ _ _ wrong c.atom.ensures refl refl
    (λ none.
    let clean = none_both (flaw_in param.result.flaw) (flaw_in number.result.flaw) (sym c.earlier_of-flaw.ensures ∙ none) in
    ap (λ x. tree_of (Cmp param.result.value op x)) back
    ∙ tree_of-Cmp param.result.value op number.result.value
    ∙ ap (λ p. compared p op number.result.value) param.ensures.value
    ∙ ap (compared (parameter_of names text c.args.name) op) (number.ensures.value clean.1))
