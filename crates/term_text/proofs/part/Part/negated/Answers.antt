use Rattle.std.proofs.Common.{ap, ◌∙◌}
use Rattle.ecam_spec.specs.Book.{negation}
use Rattle.term_tree.specs.View.{tree_of}
use Rattle.term_tree.proofs.Views.{tree_of-Not}
use Rattle.term_text.proofs.Judged.{node_over, negation-depth, negation-nodes}
use Rattle.term_text.proofs.part.Part.negated.Goals as goal

pub returns : goal.returns
returns c = λ wrong tree h.
    node_over c.args.self c.above.result _ wrong wrong _ tree (negation tree) h.wrong_is c.above.ensures (λ e. e) (negation-depth tree) (negation-nodes tree)
    (λ none same. tree_of-Not c.in_ok-new.field-0 ∙ ap negation (ap tree_of c.in_ok-new.ensures.ok ∙ same)) h
