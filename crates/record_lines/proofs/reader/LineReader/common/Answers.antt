-- The line is the piece's first, and no part of it came before.
use Rattle.std.proofs.Common.{◌≡◌, ◌+◌, [], ap, sym, ◌∙◌, subst, drop}
use Rattle.ecam_spec.specs.declared.kinds.Event.TheVariants.{Tick}
use Rattle.record_lines.specs.declared.outcome.Stage.TheVariants.{Lines}
use Rattle.record_lines.specs.Line.{IsCommon}
use Rattle.record_lines.specs.contracts.reader.LineReader.{the_view}
use Rattle.record_lines.proofs.Went.{empty_from}
use Rattle.record_lines.proofs.Progress.{IsPast}
use Rattle.record_lines.proofs.CommonPassed.{common-gives, common-whole}
use Rattle.record_lines.proofs.reader.LineReader.common.Goals as goal

pub returns-in-Some-clause-given : goal.returns-in-Some-clause-given
returns-in-Some-clause-given c =
    let is = c.self.view_is in
    let none : c.args.self.now.line ≡ [] = sym (ap (λ r. r.line) is) ∙ empty_from c.self.inside.line.items (sym c.is_empty.ensures ∙ c.if-not-is_empty.false) in
    let lines : c.args.self.now.stage ≡ Lines = sym (ap (λ r. r.stage) is) ∙ c.in-Lines.is in
    let found : IsCommon c.args.self.now.pending (c.in-Some.event, 12) = subst (λ l. IsCommon l (c.in-Some.event, 12)) (c.bytes-bytes.ensures.all ∙ ap (λ r. r.pending) is) c.in-Some.ensures in
    let new = the_view (record { piece = c.skip.new.self; line = c.self.inside.line; number = c.self.inside.number + 1; allowance = c.self.inside.allowance; over = c.self.inside.over; stage = c.self.inside.stage }) in
    let past : IsPast 12 c.args.self.now new = record {
      line_is = ap (λ r. r.line) is ∙ none;
      pending_is = c.skip.ensures ∙ ap (λ r. drop 13 r.pending) is;
      number_is = ap (λ r. r.number + 1) is;
      allowance_is = ap (λ r. r.allowance) is;
      over_is = ap (λ r. r.over) is;
    } in
    common-gives 12 c.args.self.now c.in-Some.event lines none found new past (ap (λ r. r.stage) is ∙ lines)

pub returns-in-Some-clause-whole : goal.returns-in-Some-clause-whole
returns-in-Some-clause-whole c =
    let is = c.self.view_is in
    let none : c.args.self.now.line ≡ [] = sym (ap (λ r. r.line) is) ∙ empty_from c.self.inside.line.items (sym c.is_empty.ensures ∙ c.if-not-is_empty.false) in
    let lines : c.args.self.now.stage ≡ Lines = sym (ap (λ r. r.stage) is) ∙ c.in-Lines.is in
    let found : IsCommon c.args.self.now.pending (c.in-Some.event, 12) = subst (λ l. IsCommon l (c.in-Some.event, 12)) (c.bytes-bytes.ensures.all ∙ ap (λ r. r.pending) is) c.in-Some.ensures in
    common-whole 12 c.args.self.now c.in-Some.event lines none found

pub returns-then-is_tick_line-clause-given : goal.returns-then-is_tick_line-clause-given
returns-then-is_tick_line-clause-given c =
    let is = c.self.view_is in
    let none : c.args.self.now.line ≡ [] = sym (ap (λ r. r.line) is) ∙ empty_from c.self.inside.line.items (sym c.is_empty.ensures ∙ c.if-not-is_empty.false) in
    let lines : c.args.self.now.stage ≡ Lines = sym (ap (λ r. r.stage) is) ∙ c.in-Lines.is in
    let found : IsCommon c.args.self.now.pending (Tick, 1) = subst (λ l. IsCommon l (Tick, 1)) (c.bytes-bytes.ensures.all ∙ ap (λ r. r.pending) is) (c.is_tick_line.ensures c.if-is_tick_line.true) in
    let new = the_view (record { piece = c.skip-then-is_tick_line.new.self; line = c.self.inside.line; number = c.self.inside.number + 1; allowance = c.self.inside.allowance; over = c.self.inside.over; stage = c.self.inside.stage }) in
    let past : IsPast 1 c.args.self.now new = record {
      line_is = ap (λ r. r.line) is ∙ none;
      pending_is = c.skip-then-is_tick_line.ensures ∙ ap (λ r. drop 2 r.pending) is;
      number_is = ap (λ r. r.number + 1) is;
      allowance_is = ap (λ r. r.allowance) is;
      over_is = ap (λ r. r.over) is;
    } in
    common-gives 1 c.args.self.now Tick lines none found new past (ap (λ r. r.stage) is ∙ lines)

pub returns-then-is_tick_line-clause-whole : goal.returns-then-is_tick_line-clause-whole
returns-then-is_tick_line-clause-whole c =
    let is = c.self.view_is in
    let none : c.args.self.now.line ≡ [] = sym (ap (λ r. r.line) is) ∙ empty_from c.self.inside.line.items (sym c.is_empty.ensures ∙ c.if-not-is_empty.false) in
    let lines : c.args.self.now.stage ≡ Lines = sym (ap (λ r. r.stage) is) ∙ c.in-Lines.is in
    let found : IsCommon c.args.self.now.pending (Tick, 1) = subst (λ l. IsCommon l (Tick, 1)) (c.bytes-bytes.ensures.all ∙ ap (λ r. r.pending) is) (c.is_tick_line.ensures c.if-is_tick_line.true) in
    common-whole 1 c.args.self.now Tick lines none found
