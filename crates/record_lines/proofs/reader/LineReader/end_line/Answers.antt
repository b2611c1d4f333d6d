-- The line is read where it lies in the piece, or together with what came before it.
use Rattle.std.proofs.Common.{◌≡◌, ◌++◌, ◌+◌, ap, sym, ◌∙◌, refl, arith, length, take, drop, Some, None, length-append, length-drop, length-take}
use Rattle.ecam_spec.specs.declared.kinds.FaultKind.TheVariants.{Form}
use Rattle.ecam_spec.specs.RecordLine.{event_of}
use Rattle.record_lines.specs.declared.outcome.Stage.TheVariants.{Closing}
use Rattle.record_lines.specs.Reader.{room, settled_at}
use Rattle.record_lines.specs.contracts.reader.LineReader.{the_view}
use Rattle.record_lines.proofs.Went.{inside}
use Rattle.record_lines.proofs.Grows.{is_end-event}
use Rattle.record_lines.proofs.Needs.{needs-line, formless-no_end}
use Rattle.record_lines.proofs.Refusals.{fails, no_form}
use Rattle.record_lines.proofs.Progress.{IsPast, line_gives, line_ends, begun_line}
use Rattle.record_lines.proofs.reader.LineReader.end_line.Goals as goal

pub returns-in_default-clause-given : goal.returns-in_default-clause-given
returns-in_default-clause-given c =
    let old = c.args.self.now in
    let is = c.self.view_is in
    let none : event_of (old.line ++ take c.args.at old.pending) ≡ None =
    ap (λ r. event_of (r.line ++ take c.args.at r.pending)) (sym is) ∙ ap (λ l. event_of (c.self.inside.line.items ++ take c.args.at l)) (sym c.bytes.ensures.all) ∙ sym c.event_across-event.ensures.event ∙ c.in_default.is in
    let size = ap room is in
    let line = ap length c.event_across-event.ensures.empty in
    let piece = ap length c.skip.ensures in
    let rest = length-drop (c.args.at + 1) c.self.inside.piece in
    fails old (the_view (record { piece = c.skip.new.self; line = c.event_across-event.new.line; number = c.self.inside.number; allowance = c.self.inside.allowance; over = c.self.inside.over; stage = c.self.inside.stage }))
    c.fail.new.self Form c.fail.result (ap settled_at c.requires.lines) c.fail.ensures.answer c.fail.ensures.state (ap (λ r. r.number) is) (omega arith) (no_form old c.args.at c.requires.lines c.requires.feed c.requires.fits none)

pub returns-clause-given : goal.returns-clause-given
returns-clause-given c =
    let old = c.args.self.now in
    let is = c.self.view_is in
    let some : event_of (old.line ++ take c.args.at old.pending) ≡ Some c.in-Some.event =
    ap (λ r. event_of (r.line ++ take c.args.at r.pending)) (sym is) ∙ ap (λ l. event_of (c.self.inside.line.items ++ take c.args.at l)) (sym c.bytes.ensures.all) ∙ sym c.event_across-event.ensures.event ∙ c.in-Some.is in
    let new = the_view (record { piece = c.skip.new.self; line = c.event_across-event.new.line; number = c.self.inside.number + 1; allowance = c.self.inside.allowance; over = c.self.inside.over; stage = c.self.inside.stage }) in
    let past : IsPast c.args.at old new = record {
      line_is = c.event_across-event.ensures.empty;
      pending_is = c.skip.ensures ∙ ap (λ r. drop (c.args.at + 1) r.pending) is;
      number_is = ap (λ r. r.number + 1) is;
      allowance_is = ap (λ r. r.allowance) is;
      over_is = ap (λ r. r.over) is;
    } in
    line_gives c.args.at old new c.in-Some.event c.requires.feed c.requires.fits some past c.requires.lines (ap (λ r. r.stage) is ∙ c.requires.lines) (sym c.is_end.ensures ∙ c.if-is_end.false)

pub returns-then-is_end-clause-none : goal.returns-then-is_end-clause-none
returns-then-is_end-clause-none c =
    let old = c.args.self.now in
    let is = c.self.view_is in
    let some : event_of (old.line ++ take c.args.at old.pending) ≡ Some c.in-Some.event =
    ap (λ r. event_of (r.line ++ take c.args.at r.pending)) (sym is) ∙ ap (λ l. event_of (c.self.inside.line.items ++ take c.args.at l)) (sym c.bytes.ensures.all) ∙ sym c.event_across-event.ensures.event ∙ c.in-Some.is in
    let new = the_view (record { piece = c.skip.new.self; line = c.event_across-event.new.line; number = c.self.inside.number + 1; allowance = c.self.inside.allowance; over = c.self.inside.over; stage = Closing }) in
    let past : IsPast c.args.at old new = record {
      line_is = c.event_across-event.ensures.empty;
      pending_is = c.skip.ensures ∙ ap (λ r. drop (c.args.at + 1) r.pending) is;
      number_is = ap (λ r. r.number + 1) is;
      allowance_is = ap (λ r. r.allowance) is;
      over_is = ap (λ r. r.over) is;
    } in
    line_ends c.args.at old new c.in-Some.event c.requires.feed c.requires.fits some past c.requires.lines refl (sym c.is_end.ensures ∙ c.if-is_end.true)

pub invariant_of-self-then-is_end : goal.invariant_of-self-then-is_end
invariant_of-self-then-is_end c =
    let rest = take c.args.at c.bytes.result.now in
    let begun = begun_line (c.self.inside.line.items ++ rest) c.in-Some.event (sym c.event_across-event.ensures.event ∙ c.in-Some.is) in
    let few = c.self.invariant in
    let within = inside c.args.self.now.pending c.args.at c.requires.feed in
    let all = ap (λ r. length r.pending) c.self.view_is in
    let whole = length-append c.self.inside.line.items rest in
    let size = length-take c.args.at c.bytes.result.now in
    let same = ap length c.bytes.ensures.all in
    let line = ap length c.event_across-event.ensures.empty in
    let piece = ap length c.skip.ensures in
    let left = length-drop (c.args.at + 1) c.self.inside.piece in
    omega arith

pub invariant_of-self-else-is_end : goal.invariant_of-self-else-is_end
invariant_of-self-else-is_end c =
    let rest = take c.args.at c.bytes.result.now in
    let begun = begun_line (c.self.inside.line.items ++ rest) c.in-Some.event (sym c.event_across-event.ensures.event ∙ c.in-Some.is) in
    let few = c.self.invariant in
    let within = inside c.args.self.now.pending c.args.at c.requires.feed in
    let all = ap (λ r. length r.pending) c.self.view_is in
    let whole = length-append c.self.inside.line.items rest in
    let size = length-take c.args.at c.bytes.result.now in
    let same = ap length c.bytes.ensures.all in
    let line = ap length c.event_across-event.ensures.empty in
    let piece = ap length c.skip.ensures in
    let left = length-drop (c.args.at + 1) c.self.inside.piece in
    omega arith

-- the line doesn't end the record, so that no reading is needed
pub returns-in_default-clause-whole : goal.returns-in_default-clause-whole
returns-in_default-clause-whole c =
    let old = c.args.self.now in
    let is = c.self.view_is in
    let none : event_of (old.line ++ take c.args.at old.pending) ≡ None =
    ap (λ r. event_of (r.line ++ take c.args.at r.pending)) (sym is) ∙ ap (λ l. event_of (c.self.inside.line.items ++ take c.args.at l)) (sym c.bytes.ensures.all) ∙ sym c.event_across-event.ensures.event ∙ c.in_default.is in
    needs-line old c.requires.lines c.args.at c.requires.feed (formless-no_end (old.line ++ take c.args.at old.pending) none)

pub returns-clause-whole : goal.returns-clause-whole
returns-clause-whole c =
    let old = c.args.self.now in
    let is = c.self.view_is in
    let some : event_of (old.line ++ take c.args.at old.pending) ≡ Some c.in-Some.event =
    ap (λ r. event_of (r.line ++ take c.args.at r.pending)) (sym is) ∙ ap (λ l. event_of (c.self.inside.line.items ++ take c.args.at l)) (sym c.bytes.ensures.all) ∙ sym c.event_across-event.ensures.event ∙ c.in-Some.is in
    needs-line old c.requires.lines c.args.at c.requires.feed
    (is_end-event (old.line ++ take c.args.at old.pending) c.in-Some.event some ∙ sym c.is_end.ensures ∙ c.if-is_end.false)
