-- The source is at its end.
use Rattle.std.proofs.Common.{Err, ap, sym, ◌∙◌, refl, arith, length}
use Rattle.ecam_spec.specs.declared.kinds.FaultKind.TheVariants.{Cut, NoEnd}
use Rattle.record_lines.specs.Reader.{room}
use Rattle.record_lines.specs.Reads.{last_call}
use Rattle.record_lines.proofs.Went.{pos_from, empty_from, lines_from}
use Rattle.record_lines.proofs.Refusals.{fails, cut_off, no_end}
use Rattle.record_lines.proofs.Progress.{ends}
use Rattle.record_lines.proofs.reader.LineReader.finish.Goals as goal

pub returns-then-not-is_empty-clause-given : goal.returns-then-not-is_empty-clause-given
returns-then-not-is_empty-clause-given c =
    let old = c.args.self.now in
    let line = ap (λ r. length r.line) c.self.view_is in
    let begun = pos_from _ (sym c.is_empty.ensures ∙ c.if-not-is_empty.true) in
    fails old old c.fail.new.self Cut c.fail.result c.requires.unsettled c.fail.ensures.answer c.fail.ensures.state refl (omega arith) (cut_off old c.requires.unsettled c.requires.empty c.requires.within (omega arith))

pub returns-in-Closing-clause-given : goal.returns-in-Closing-clause-given
returns-in-Closing-clause-given c =
    let size = ap room c.self.view_is in
    ends c.args.self.now _ (sym (ap (λ r. r.stage) c.self.view_is) ∙ c.in-Closing.is) refl (omega arith) c.requires.empty c.requires.within (sym (ap (λ r. r.line) c.self.view_is) ∙ empty_from c.self.inside.line.items (sym c.is_empty.ensures ∙ c.if-not-is_empty.false))

pub returns-in_default : goal.returns-in_default
returns-in_default c =
    let old = c.args.self.now in
    let lines = lines_from old.stage c.requires.unsettled (λ closing. c.in_default.not-Closing (ap (λ r. r.stage) c.self.view_is ∙ closing)) in
    let whole = sym (ap (λ r. r.line) c.self.view_is) ∙ empty_from c.self.inside.line.items (sym c.is_empty.ensures ∙ c.if-not-is_empty.false) in
    record {
      given = fails old old c.fail-in_default.new.self NoEnd c.fail-in_default.result c.requires.unsettled c.fail-in_default.ensures.answer c.fail-in_default.ensures.state refl (omega arith) (no_end old lines c.requires.empty c.requires.within whole);
      answer = λ h. let a = c.fail-in_default.ensures.answer in cc;
      last = ap (λ e. last_call (Err e)) c.fail-in_default.ensures.answer;
    }
