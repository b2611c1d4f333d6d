use Rattle.std.proofs.Common.{ap, ◌∙◌}
use Rattle.std.specs.Prelude.{bit_or}
use Rattle.ecam_spec.specs.Book.{in_phase}
use Rattle.ecam_spec.specs.TermText.{earliest, phase_flaw, amount}
use Rattle.ecam_spec.specs.TermNumber.{one_phase}
use Rattle.term_text.specs.Flaws.{flaw_in, earlier_of}
use Rattle.term_text.specs.Parts.{with_phase}
use Rattle.term_text.proofs.Judged.{atom_over, none_both, phases-depth, phases-nodes}
use Rattle.term_text.proofs.part.Part.also_in_phase.Goals as goal

pub returns : goal.returns
returns c = λ names wrong set h.
    let n = c.args.number in
    let text = c.args.text.now in
    let all = bit_or set (one_phase (amount names text n)) in
    let own = earliest (phase_flaw names text n) in
    let same_flaw = c.amount_at-number.ensures.flaw names in
    let e = c.earlier_of.ensures ∙ ap (λ w. earlier_of w (flaw_in c.amount_at-number.result.flaw)) h.wrong_is ∙ ap (earlier_of wrong) same_flaw in
    atom_over c.args.self c.new.result _ wrong (earlier_of wrong own) _ (in_phase set) (in_phase all) e c.new.ensures (λ none. (none_both wrong own none).0)
    (phases-depth all set) (phases-nodes all set)
    (λ none same.
    c.with_phase.ensures
    ∙ ap (with_phase c.amount_at-number.result.value) same
    ∙ ap (λ p. in_phase (bit_or set (one_phase p))) (c.amount_at-number.ensures.value names (same_flaw ∙ (none_both wrong own none).1)))
    h
