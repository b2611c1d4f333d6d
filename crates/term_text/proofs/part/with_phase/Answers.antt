use Rattle.std.proofs.Common.{sym, ap, ◌∙◌}
use Rattle.std.specs.Prelude.{bit_or}
use Rattle.ecam_spec.specs.Book.{in_phase}
use Rattle.term_tree.specs.View.{tree_of}
use Rattle.term_tree.proofs.Views.{tree_of-InPhase}
use Rattle.term_text.specs.Parts.{with_phase}
use Rattle.term_text.proofs.part.with_phase.Goals as goal

pub returns-in-InPhase : goal.returns-in-InPhase
returns-in-InPhase c =
    tree_of-InPhase c.union.result
    ∙ ap in_phase (c.union.ensures tt ∙ ap (bit_or c.in-InPhase.set.0) c.only.ensures)
    ∙ sym (ap (λ x. with_phase c.args.phase.number (tree_of x)) c.in-InPhase.is ∙ ap (with_phase c.args.phase.number) (tree_of-InPhase c.in-InPhase.set))
