use Rattle.std.proofs.Common.{◌≡◌, ◌+◌, ◌*◌, ◌-◌, ◌/◌, ◌<◌, ◌≤◌, false, length, set, refl, sym, ap, subst, ◌∙◌, add-one, arith}
use Rattle.book_model.specs.Sealed.{the_book}
use Rattle.book_model.specs.Conditions.{lines_from, memos_from}
use Rattle.book_model.proofs.BookLists.{many-alerts}
use Rattle.book_model.proofs.ConditionPlaces.{all-places}
use Rattle.fwc_lane.specs.Conditions.{LinesHalf}
use Rattle.fwc_lane.specs.LineFlags.{AreLineAlerts, stands_by}
use Rattle.fwc_lane.proofs.Showing.{shows-list}
use Rattle.fwc_lane.proofs.FlagSteps.{set-length, left-false, right-false}
use Rattle.fwc_lane.proofs.ProcedureSteps.{condition-place, line-on, lines-begin, lines-past, lines-told}
use Rattle.fwc_lane.proofs.procedures.step_lines.Goals as goal

pub next_or-number-requires : goal.next_or-number-requires
next_or-number-requires c = omega (arith, c.line_number-first.ensures, c.first_memo-end.ensures)

pub loop-number-init : goal.loop-number-init
loop-number-init c =
    let d = c.args.book.now in
    let found = c.next_or-number.ensures in
    let first : c.line_number-first.result ≡ lines_from (the_book d) = omega (arith, c.line_number-first.ensures) in
    record {
      from = omega (arith, found.from, first);
      most = omega (arith, found.end, c.first_memo-end.ensures);
      marked = λ lt. found.marked (omega (arith, lt, c.first_memo-end.ensures));
      fits = c.requires.fits;
      flags = refl;
      stands = λ active same m visits shows were half.
          lines-past d c.sealed.ensures m c.args.now visits _ _ c.requires.now (lines_from (the_book d)) c.next_or-number.result (omega arith) (omega (arith, found.from, first)) (omega (arith, found.end, c.first_memo-end.ensures))
          (λ j low high. found.none j (omega (arith, low, first)) high) (lines-begin d c.sealed.ensures m c.args.now visits _ _ were half);
      kept = λ e a n on has. refl;
    }

pub step_stirred-requires-clause-place : goal.step_stirred-requires-clause-place
step_stirred-requires-clause-place c =
    let d = c.args.book.now in
    let (p, here, names) = condition-place d c.sealed.ensures c.loop-number.number (omega (arith, c.loop-number-test.true, c.first_memo-end.ensures)) in
    (the_book d, p, c.loop-number.invariant.fits, here, rw (c.requires.values, c.requires.active) names)

pub step_stirred-requires-clause-stirred : goal.step_stirred-requires-clause-stirred
step_stirred-requires-clause-stirred c = c.loop-number.invariant.marked (omega (arith, c.loop-number-test.true, c.first_memo-end.ensures))

pub stands_as_kept-stands-requires : goal.stands_as_kept-stands-requires
stands_as_kept-stands-requires c =
    let d = c.args.book.now in
    let fits = c.step_stirred.ensures.fits (the_book d) c.loop-number.invariant.fits in
    omega (arith, c.loop-number-test.true, c.loop-number.invariant.from, c.line_number-first.ensures, c.first_memo-end.ensures, fits.truths, all-places d c.sealed.ensures)

pub note_line-other-requires-clause-line : goal.note_line-other-requires-clause-line
note_line-other-requires-clause-line c =
    omega (arith, c.loop-number-test.true, c.loop-number.invariant.from, c.line_number-first.ensures, c.first_memo-end.ensures, c.loop-number.invariant.flags, c.requires.flags)

pub note_line-other-requires-clause-alerts : goal.note_line-other-requires-clause-alerts
note_line-other-requires-clause-alerts c =
    let fits = c.step_stirred.ensures.fits (the_book c.args.book.now) c.loop-number.invariant.fits in
    ap length c.deref.ensures.value ∙ fits.line_alerts.lines ∙ sym (c.loop-number.invariant.flags ∙ c.requires.flags)

pub note_line-other-requires-clause-shown : goal.note_line-other-requires-clause-shown
note_line-other-requires-clause-shown c =
    let fits = c.step_stirred.ensures.fits (the_book c.args.book.now) c.loop-number.invariant.fits in
    rw (c.deref.ensures.value, c.requires.shown, sym (many-alerts c.args.book.now)) fits.line_alerts.within

pub next_or-number-requires-in-loop-number : goal.next_or-number-requires-in-loop-number
next_or-number-requires-in-loop-number c = omega (arith, c.loop-number-test.true)

pub loop-number-preserved : goal.loop-number-preserved
loop-number-preserved c =
    let d = c.args.book.now in
    let b = the_book d in
    let i = c.loop-number.number in
    let n = (i - c.line_number-first.result) / 2 in
    let first : c.line_number-first.result ≡ lines_from b = omega (arith, c.line_number-first.ensures) in
    let less : i < memos_from b = omega (arith, c.loop-number-test.true, c.first_memo-end.ensures) in
    let next = c.next_or-number-in-loop-number.ensures in
    let end : c.next_or-number-in-loop-number.result ≤ memos_from b = omega (arith, next.end, c.first_memo-end.ensures) in
    let truths = c.step_stirred.new.terms.truths.items in
    let is = c.note_line-other.ensures.items ∙ ap (λ t. set c.loop-number.flags.items n t) (c.stands_as_kept-stands.ensures ∙ ap (λ z. stands_by truths (z + 2 * n)) first) in
    let room : n < length c.loop-number.flags.items =
    omega (arith, less, first, c.loop-number.invariant.from, c.loop-number.invariant.flags, c.requires.flags) in
    let fits = c.step_stirred.ensures.fits b c.loop-number.invariant.fits in
    record {
      from = omega (arith, next.from, c.loop-number.invariant.from);
      most = end;
      marked = λ lt. next.marked (omega (arith, lt, c.first_memo-end.ensures));
      fits = fits;
      flags = set-length _ _ _ _ false c.note_line-other.ensures.items ∙ c.loop-number.invariant.flags;
      stands = λ active same m visits shows were half.
          let (p, here, names) = condition-place d c.sealed.ensures i less in
          lines-past d c.sealed.ensures m c.args.now visits c.step_stirred.new.terms c.note_line-other.new.flags.items c.requires.now (i + 1) c.next_or-number-in-loop-number.result
          (omega (arith, c.loop-number.invariant.from)) next.from end next.none
          (subst (λ j. LinesHalf b m c.args.now j visits c.step_stirred.new.terms c.note_line-other.new.flags.items) (sym (add-one i))
          (line-on d c.sealed.ensures m c.args.now visits n i p c.loop-number.invariant.from (omega (arith, first, c.loop-number.invariant.from)) (omega (arith, first, c.loop-number.invariant.from)) here
          (record c.args.env.now { phase = c.args.phase; active = c.args.active }) (shows-list c.args.env.now c.args.phase _ c.args.now active c.args.active same shows) c.loop-number.terms c.step_stirred.new.terms c.step_stirred.result
          (c.step_stirred.ensures.steps b p c.loop-number.invariant.fits here (rw (c.requires.values, c.requires.active) names)) c.step_stirred.ensures.truths
          c.loop-number.flags.items c.note_line-other.new.flags.items is room (c.loop-number.invariant.stands active same m visits shows were half)));
      kept = λ off.
          let none = sym c.is_either-turned.ensures ∙ off in
          let alerts = subst (AreLineAlerts b) (sym c.deref.ensures.value) fits.line_alerts in
          λ a n on has. c.note_line-other.ensures.kept b alerts (right-false _ _ none) a n on has ∙ c.loop-number.invariant.kept (left-false _ _ none) a n on has;
    }

pub returns-clause-told : goal.returns-clause-told
returns-clause-told c = λ m visits shows were half.
    let d = c.args.book.now in
    let all : c.loop-number.number ≡ memos_from (the_book d) = omega (arith, c.loop-number-test.false, c.loop-number.invariant.most, c.first_memo-end.ensures) in
    lines-told d c.sealed.ensures m c.args.now visits c.loop-number.terms c.loop-number.flags.items
    (subst (λ i. LinesHalf (the_book d) m c.args.now i visits c.loop-number.terms c.loop-number.flags.items) all (c.loop-number.invariant.stands c.args.active refl m visits shows were half))

pub returns-clause-stands : goal.returns-clause-stands
returns-clause-stands c = λ m visits shows were half.
    let d = c.args.book.now in
    let all : c.loop-number.number ≡ memos_from (the_book d) = omega (arith, c.loop-number-test.false, c.loop-number.invariant.most, c.first_memo-end.ensures) in
    let last = subst (λ i. LinesHalf (the_book d) m c.args.now i visits c.loop-number.terms c.loop-number.flags.items) all (c.loop-number.invariant.stands c.args.active refl m visits shows were half) in
    last.terms
