use Rattle.std.proofs.Common.{ap, ◌∙◌}
use Rattle.ecam_spec.specs.Book.{risen}
use Rattle.term_tree.specs.View.{tree_of}
use Rattle.term_tree.proofs.Views.{tree_of-Rise}
use Rattle.term_text.proofs.Judged.{node_over, risen-depth, risen-nodes}
use Rattle.term_text.proofs.part.Part.risen.Goals as goal

pub returns : goal.returns
returns c = λ wrong tree h.
    node_over c.args.self c.above.result _ wrong wrong _ tree (risen tree) h.wrong_is c.above.ensures (λ e. e) (risen-depth tree) (risen-nodes tree)
    (λ none same. tree_of-Rise c.in_ok-new.field-0 ∙ ap risen (ap tree_of c.in_ok-new.ensures.ok ∙ same)) h
