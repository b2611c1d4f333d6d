use Rattle.std.proofs.Common.{[], Err, ap, ◌∙◌, subst}
use Rattle.std.proofs.lemmas.Result.{err_from_is_err_and}
use Rattle.ecam_spec.proofs.TermReading.{text_reading, after_all, computed}
use Rattle.ecam_spec.proofs.TermVerdict.{computed_told}
use Rattle.term_text.specs.Answer.{Tells}
use Rattle.term_text.specs.StepsTold.{TellsSteps}
use Rattle.term_text.proofs.WholeText.{read_whole, refused_early}
use Rattle.term_text.proofs.read.read_term_by.Goals as goal

pub returns-in_err-steps : goal.returns-in_err-steps
returns-in_err-steps g c =
    let e = c.in_err-steps.field-0.0 in
    let p = err_from_is_err_and c.from_residual.result c.from_residual.ensures.1 in
    let refused = subst (λ text. TellsSteps (text_reading text) (Err e)) c.as_bytes-bytes.ensures.value c.in_err-steps.ensures in
    let names = g.D.Dictionary.known c.args.names.now in
    let text = c.args.text.now in
    rw (p.1, p.2) (computed names text, computed_told names text, refused_early names text e refused)

pub returns : goal.returns
returns g c =
    let names = g.D.Dictionary.known c.args.names.now in
    let bytes = c.as_bytes-bytes.result.now in
    let read = read_whole names bytes c.in_ok-steps.steps.items c.condition_of.result c.in_ok-steps.ensures (λ f e. c.condition_of.ensures f (ap (λ ss. after_all ss []) c.deref.ensures.value ∙ e)) in
    let text = c.args.text.now in
    (computed names text, computed_told names text, subst (λ text. Tells (computed names text) c.condition_of.result) c.as_bytes-bytes.ensures.value read)
