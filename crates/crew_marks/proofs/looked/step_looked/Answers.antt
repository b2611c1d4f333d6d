use Rattle.std.proofs.Common.{◌<◌, ℕ, ◌+◌, length, sym, ap, subst, ◌∙◌, arith}
use Rattle.book_model.specs.Sealed.{the_book}
use Rattle.book_model.proofs.BookLimits.{sizes}
use Rattle.book_model.proofs.BookLists.{many-alerts}
use Rattle.crew_marks.specs.declared.mark.Mark.{Mark}
use Rattle.crew_marks.specs.MarkSets.{MarkSets, mark_at, set_mark, AreMany}
use Rattle.crew_marks.specs.MarkStep.{mark_after, sight_of}
use Rattle.crew_marks.proofs.Walking.{has-mark, many-set}
use Rattle.crew_marks.proofs.Settling.{step_in, looked-at, passed-over, pass-none, pass-others, pass-more, pass-kept}
use Rattle.crew_marks.proofs.looked.step_looked.Goals as goal

pub overflow_cast-next : goal.overflow_cast-next
overflow_cast-next c =
    let few = (sizes c.args.book.now c.sealed.ensures).alerts in
    omega (arith, c.loop-next-test.true, c.requires.up, many-alerts c.args.book.now, few)

pub step_one-turned-requires-clause-place : goal.step_one-turned-requires-clause-place
step_one-turned-requires-clause-place c = omega (arith, c.loop-next-test.true, c.requires.up)

pub step_one-turned-requires-clause-has : goal.step_one-turned-requires-clause-has
step_one-turned-requires-clause-has c =
    has-mark c.loop-next.sets (length (the_book c.args.book.now).alerts) c.loop-next.next c.loop-next.invariant.many
    (omega (arith, c.loop-next-test.true, c.requires.up))

pub loop-next-init : goal.loop-next-init
loop-next-init c =
    let s = c.args.sets.now in
    let set = c.args.looked.now in
    let step = λ (a : ℕ) (m : Mark). mark_after m (sight_of (the_book c.args.book.now) c.args.up.now c.args.waiting.now c.args.target a) c.args.actions.now in
    record {
      most = c.next_or-next.ensures.end;
      on = c.next_or-next.ensures.marked;
      many = c.requires.many;
      passed =
          pass-others (step_in set step) s 0 c.next_or-next.result s _ (omega arith)
          (λ a from below. passed-over set step a (mark_at s a) (c.next_or-next.ensures.none a from below))
          (pass-none (step_in set step) s);
    }

pub loop-next-preserved : goal.loop-next-preserved
loop-next-preserved c =
    let b = the_book c.args.book.now in
    let s = c.args.sets.now in
    let set = c.args.looked.now in
    let step = λ (a : ℕ) (m : Mark). mark_after m (sight_of b c.args.up.now c.args.waiting.now c.args.target a) c.args.actions.now in
    let i = c.loop-next.next in
    let new = c.step_one-turned.new.sets in
    let turn = c.step_one-turned.ensures in
    let next = c.next_or-next-in-loop-next in
    let within : i < length b.alerts = omega (arith, c.loop-next-test.true, c.requires.up) in
    let has = has-mark c.loop-next.sets (length b.alerts) i c.loop-next.invariant.many within in
    record {
      most = next.ensures.end;
      on = next.ensures.marked;
      many =
          subst (λ (t : MarkSets). AreMany t (length b.alerts)) (sym turn.mark)
          (many-set c.loop-next.sets _ _ _ c.loop-next.invariant.many);
      passed =
          pass-others (step_in set step) s (i + 1) next.result new _ next.ensures.from
          (λ a from below. passed-over set step a (mark_at s a) (next.ensures.none a from below))
          (pass-more (step_in set step) s i c.loop-next.sets new c.loop-next.changed c.step_one-turned.result has
          (turn.mark ∙ ap (set_mark c.loop-next.sets i) (sym (looked-at set step i (mark_at c.loop-next.sets i) (c.loop-next.invariant.on c.loop-next-test.true))))
          turn.changed c.loop-next.invariant.passed);
    }

pub returns-clause-many : goal.returns-clause-many
returns-clause-many c = c.loop-next.invariant.many

pub returns-clause-steps : goal.returns-clause-steps
returns-clause-steps c =
    let b = the_book c.args.book.now in
    let step = λ (a : ℕ) (m : Mark). mark_after m (sight_of b c.args.up.now c.args.waiting.now c.args.target a) c.args.actions.now in
    let passed = c.loop-next.invariant.passed in
    record {
      marks = λ a within on.
          passed.marks a (omega (arith, within, c.loop-next-test.false, c.loop-next.invariant.most, c.requires.up))
          ∙ looked-at c.args.looked.now step a (mark_at c.args.sets.now a) on;
      kept = pass-kept c.args.looked.now step c.args.sets.now _ _ _ passed;
      order = passed.order;
    }

pub returns-clause-changed : goal.returns-clause-changed
returns-clause-changed c = c.loop-next.invariant.passed.changed
