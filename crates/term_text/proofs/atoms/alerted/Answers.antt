use Rattle.std.proofs.Common.{refl, ap, ◌∙◌}
use Rattle.ecam_spec.specs.Book.{alert}
use Rattle.ecam_spec.specs.TermSize.{nodes, depth}
use Rattle.ecam_spec.specs.TermText.{flaws, tree_of_form}
use Rattle.term_tree.proofs.Views.{tree_of-Alert}
use Rattle.term_text.proofs.Judged.{atom_judged}
use Rattle.term_text.proofs.atoms.alerted.Goals as goal

pub returns : goal.returns
unfolding flaws tree_of_form depth nodes
returns g c =
    let r = c.alert_at-alert in
    atom_judged c.atom.result _ _ _ _ r.ensures.flaw c.atom.ensures refl refl (λ none. tree_of-Alert r.result.value ∙ ap alert r.ensures.value)
