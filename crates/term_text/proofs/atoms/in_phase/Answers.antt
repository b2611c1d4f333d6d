use Rattle.std.proofs.Common.{sym, refl, ap, ◌∙◌}
use Rattle.std.proofs.lemmas.List.{append-nil}
use Rattle.ecam_spec.specs.Book.{in_phase}
use Rattle.ecam_spec.specs.TermSize.{nodes, depth}
use Rattle.ecam_spec.specs.TermText.{earliest, flaws, phase_flaw, tree_of_form}
use Rattle.ecam_spec.specs.TermNumber.{one_phase}
use Rattle.term_tree.proofs.Views.{tree_of-InPhase}
use Rattle.term_text.proofs.Judged.{atom_judged}
use Rattle.term_text.proofs.atoms.in_phase.Goals as goal

pub returns : goal.returns
unfolding flaws tree_of_form depth nodes
returns c = λ names.
    let r = c.amount_at-phase in
    atom_judged c.atom.result _ _ _ _ (r.ensures.flaw names ∙ ap earliest (sym (append-nil (phase_flaw names c.args.text.now c.args.number)))) c.atom.ensures refl refl
    (λ none. tree_of-InPhase c.only-only.result ∙ ap in_phase (c.only-only.ensures ∙ ap one_phase (r.ensures.value names none)))
