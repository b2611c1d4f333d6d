use Rattle.std.proofs.Common.{ap, ◌∙◌}
use Rattle.ecam_spec.specs.Book.{held}
use Rattle.ecam_spec.specs.TermText.{earliest, moments_flaw, amount}
use Rattle.term_tree.specs.View.{tree_of}
use Rattle.term_text.specs.Flaws.{flaw_in, earlier_of}
use Rattle.term_tree.proofs.Views.{tree_of-Hold}
use Rattle.term_text.proofs.Judged.{node_over, none_both, held-depth, held-nodes}
use Rattle.term_text.proofs.part.Part.held.Goals as goal

pub returns : goal.returns
returns c = λ names wrong tree h.
    let n = c.args.number in
    let text = c.args.text.now in
    let own = earliest (moments_flaw names text n) in
    let same_flaw = c.amount_at-moments.ensures.flaw names in
    let e = c.earlier_of.ensures ∙ ap (λ w. earlier_of w (flaw_in c.amount_at-moments.result.flaw)) h.wrong_is ∙ ap (earlier_of wrong) same_flaw in
    node_over c.args.self c.above.result _ wrong (earlier_of wrong own) _ tree (held tree (amount names text n)) e c.above.ensures (λ none. (none_both wrong own none).0)
    (held-depth tree (amount names text n)) (held-nodes tree (amount names text n))
    (λ none same.
    tree_of-Hold c.in_ok-new.field-0 c.amount_at-moments.result.value
    ∙ ap (λ t. held t c.amount_at-moments.result.value) (ap tree_of c.in_ok-new.ensures.ok ∙ same) ∙ ap (held tree) (c.amount_at-moments.ensures.value names (same_flaw ∙ (none_both wrong own none).1)))
    h
