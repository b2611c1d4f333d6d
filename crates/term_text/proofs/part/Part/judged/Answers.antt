use Rattle.std.proofs.Common.{◌≡◌, None, sym, ap, ◌∙◌, subst}
use Rattle.term_text.specs.Answer.{Tells}
use Rattle.ecam_spec.specs.TermText.{judged_tree}
use Rattle.term_text.specs.Flaws.{flaw_in}
use Rattle.term_text.specs.Parts.{Judges}
use Rattle.term_text.proofs.part.Part.judged.Goals as goal

pub returns : goal.returns
returns c = λ names text wrong tree h.
    let clean : wrong ≡ None = sym h.wrong_is ∙ ap flaw_in c.in-None.is in
    subst (λ w. Tells (judged_tree names text w tree) c.measured.result) (sym clean) (c.measured.ensures names text tree (subst (λ w. Judges c.args.self w tree) clean h))
