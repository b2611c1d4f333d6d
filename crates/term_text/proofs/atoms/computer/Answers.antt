use Rattle.std.proofs.Common.{refl, ap, ◌∙◌}
use Rattle.ecam_spec.specs.Book.{computer}
use Rattle.ecam_spec.specs.TermSize.{nodes, depth}
use Rattle.ecam_spec.specs.TermText.{flaws, tree_of_form}
use Rattle.term_tree.proofs.Views.{tree_of-Fwc}
use Rattle.term_text.proofs.Judged.{atom_judged}
use Rattle.term_text.proofs.atoms.computer.Goals as goal

pub returns : goal.returns
unfolding flaws tree_of_form depth nodes
returns c = λ names.
    let r = c.amount_at-computer in
    atom_judged c.atom.result _ _ _ _ (r.ensures.flaw names) c.atom.ensures refl refl (λ none. tree_of-Fwc r.result.value ∙ ap computer (r.ensures.value names none))
