-- Bytes after the record's end, or beyond the limit.
use Rattle.std.proofs.Common.{◌≡◌, ◌<◌, ap, sym, ◌∙◌, refl, arith, length, []}
use Rattle.ecam_spec.specs.declared.kinds.FaultKind.TheVariants.{AfterEnd, Limit}
use Rattle.record_lines.proofs.Went.{pos_from, empty_from, closing_from}
use Rattle.record_lines.proofs.Refusals.{fails, after_end, beyond_limit}
use Rattle.record_lines.proofs.reader.LineReader.excess.Goals as goal

pub returns-then-not-is_empty-clause-given : goal.returns-then-not-is_empty-clause-given
returns-then-not-is_empty-clause-given c =
    let old = c.args.self.now in
    let all = ap length (c.bytes.ensures.all ∙ ap (λ r. r.pending) c.self.view_is) in
    let left = pos_from (length c.bytes.result.now) (sym c.is_empty.ensures ∙ c.if-not-is_empty.true) in
    let some : 0 < length old.pending = omega arith in
    let closing = closing_from old.stage c.requires.unsettled (λ lines. let none = ap length (c.requires.closing lines) in omega arith) in
    fails old old c.fail.new.self AfterEnd c.fail.result c.requires.unsettled c.fail.ensures.answer c.fail.ensures.state refl (omega arith) (after_end old closing some)

pub returns-then-self-clause-given : goal.returns-then-self-clause-given
returns-then-self-clause-given c =
    let old = c.args.self.now in
    let all = c.bytes.ensures.all ∙ ap (λ r. r.pending) c.self.view_is in
    let none : old.pending ≡ [] = sym all ∙ empty_from c.bytes.result.now (sym c.is_empty.ensures ∙ c.if-not-is_empty.false) in
    let over = sym (ap (λ r. r.over) c.self.view_is) ∙ c.if-self.true in
    fails old old c.fail-then-self.new.self Limit c.fail-then-self.result c.requires.unsettled c.fail-then-self.ensures.answer c.fail-then-self.ensures.state refl (omega arith) (beyond_limit old c.requires.unsettled none over)
