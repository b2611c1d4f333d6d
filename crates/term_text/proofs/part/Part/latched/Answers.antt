use Rattle.std.proofs.Common.{rules, ◌≡◌, max, ap, ◌∙◌}
use Rattle.ecam_spec.specs.Book.{latched}
use Rattle.term_tree.specs.View.{tree_of}
use Rattle.term_text.specs.Flaws.{flaw_in, earlier_of}
use Rattle.term_tree.proofs.Views.{tree_of-Latch}
use Rattle.term_text.proofs.Judged.{latch_over}
use Rattle.term_text.proofs.part.Part.latched.Goals as goal

pub returns : goal.returns
returns c = λ wrong other_wrong tree other h k.
    let e = c.earlier_of-flaw.ensures ∙ ap (λ w. earlier_of w (flaw_in c.args.reset.flaw)) h.wrong_is ∙ ap (earlier_of wrong) k.wrong_is in
    let deepest : c.max-depth.result ≡ max c.args.self.depth c.args.reset.depth = search rules in
    latch_over c.args.self c.args.reset c.above.result _ wrong other_wrong c.max-depth.result c.saturating_add-size.result _ tree other e deepest c.saturating_add-size.ensures c.above.ensures
    (λ same alike. tree_of-Latch c.in_ok-set.set c.in_ok-new.field-0 ∙ ap (λ t. latched t (tree_of c.in_ok-new.field-0.value)) (ap tree_of c.in_ok-set.ensures.ok ∙ same) ∙ ap (latched tree) (ap tree_of c.in_ok-new.ensures.ok ∙ alike)) h k
