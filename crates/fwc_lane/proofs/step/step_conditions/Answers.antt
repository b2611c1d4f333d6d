use Rattle.std.proofs.Common.{length, ap, arith}
use Rattle.book_model.specs.Sealed.{the_book}
use Rattle.book_model.proofs.BookLists.{many-alerts}
use Rattle.fwc_lane.proofs.Showing.{shows-whole}
use Rattle.fwc_lane.proofs.step.step_conditions.Goals as goal

pub step_lines-lines-requires-clause-active : goal.step_lines-lines-requires-clause-active
step_lines-lines-requires-clause-active c = omega (arith, ap length c.active.ensures.value, c.step_alerts.ensures.fits.active, many-alerts c.args.book.now)

pub step_memos-memos-requires-clause-active : goal.step_memos-memos-requires-clause-active
step_memos-memos-requires-clause-active c = omega (arith, ap length c.active-2.ensures.value, c.step_alerts.ensures.fits.active, many-alerts c.args.book.now)

pub returns-clause-stands : goal.returns-clause-stands
returns-clause-stands c = λ m visits lends was.
    let b = the_book c.args.book.now in
    let phase = c.step_phase-phase.ensures.phase m visits lends was.terms was.phases in
    let alerts = c.step_phase-phase.ensures.stands m visits lends was.terms was.phases was.was in
    let truths = c.step_alerts.ensures.truths m visits lends phase was.was alerts was.truths in
    let lines = c.step_alerts.ensures.stands m visits lends phase was.was alerts was.truths in
    let shows = shows-whole b m c.args.now c.args.env.now lends _ c.step_phase-phase.result c.active.result phase c.active.ensures.value truths in
    let later = shows-whole b m c.args.now c.args.env.now lends _ c.step_phase-phase.result c.active-2.result phase c.active-2.ensures.value truths in
    record {
      terms = c.step_memos-memos.ensures.stands m visits later was.memos (c.step_lines-lines.ensures.stands m visits shows was.lines lines);
      phases = c.step_phase-phase.ensures.state m visits lends was.terms was.phases;
      truths = truths;
    }

pub returns-clause-phase : goal.returns-clause-phase
returns-clause-phase c = λ m visits lends was. c.step_phase-phase.ensures.phase m visits lends was.terms was.phases

pub returns-clause-line_flags : goal.returns-clause-line_flags
returns-clause-line_flags c = λ m visits lends was.
    let b = the_book c.args.book.now in
    let phase = c.step_phase-phase.ensures.phase m visits lends was.terms was.phases in
    let alerts = c.step_phase-phase.ensures.stands m visits lends was.terms was.phases was.was in
    let truths = c.step_alerts.ensures.truths m visits lends phase was.was alerts was.truths in
    let lines = c.step_alerts.ensures.stands m visits lends phase was.was alerts was.truths in
    let shows = shows-whole b m c.args.now c.args.env.now lends _ c.step_phase-phase.result c.active.result phase c.active.ensures.value truths in
    c.step_lines-lines.ensures.told m visits shows was.lines lines

pub returns-clause-memo_flags : goal.returns-clause-memo_flags
returns-clause-memo_flags c = λ m visits lends was.
    let b = the_book c.args.book.now in
    let phase = c.step_phase-phase.ensures.phase m visits lends was.terms was.phases in
    let alerts = c.step_phase-phase.ensures.stands m visits lends was.terms was.phases was.was in
    let truths = c.step_alerts.ensures.truths m visits lends phase was.was alerts was.truths in
    let lines = c.step_alerts.ensures.stands m visits lends phase was.was alerts was.truths in
    let shows = shows-whole b m c.args.now c.args.env.now lends _ c.step_phase-phase.result c.active.result phase c.active.ensures.value truths in
    let later = shows-whole b m c.args.now c.args.env.now lends _ c.step_phase-phase.result c.active-2.result phase c.active-2.ensures.value truths in
    c.step_memos-memos.ensures.told m visits later was.memos (c.step_lines-lines.ensures.stands m visits shows was.lines lines)
