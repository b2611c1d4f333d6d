use Rattle.std.proofs.Common.{◌≡◌, ℕ, refl, ◌<◌, ◌≤◌, ◌+◌, sym, ap, subst, ◌∙◌, arith, add-one}
use Rattle.book_model.specs.Sealed.{the_book}
use Rattle.book_model.proofs.BookLists.{many-alerts}
use Rattle.book_model.proofs.BookLimits.{sizes}
use Rattle.ecam_spec.specs.Situation.{condition_in, phase_in}
use Rattle.wakes.specs.Marks.{is_marked}
use Rattle.alert_truth.specs.TruthsState.{OthersStay}
use Rattle.fwc_lane.specs.Conditions.{AlertsHalf}
use Rattle.fwc_lane.proofs.AlertSteps.{undue-passes, alerts-skip}
use Rattle.fwc_lane.proofs.alerts.step_up_to.Goals as goal

pub next_stirred-next-requires-clause-few : goal.next_stirred-next-requires-clause-few
next_stirred-next-requires-clause-few c = let d = c.args.book.now in omega (arith, c.requires.due, many-alerts d, (sizes d c.sealed.ensures).alerts)

pub next_stirred-next-requires-in-loop-next-clause-few : goal.next_stirred-next-requires-in-loop-next-clause-few
next_stirred-next-requires-in-loop-next-clause-few c = let d = c.args.book.now in omega (arith, c.requires.due, many-alerts d, (sizes d c.sealed.ensures).alerts)

pub loop-next-init : goal.loop-next-init
loop-next-init c =
    let d = c.args.book.now in
    let b = the_book d in
    let k = c.args.now in
    let next = c.next_stirred-next.ensures in
    record {
      low = next.from;
      most = next.within;
      marked = next.marked;
      terms = c.requires.terms;
      fits = c.requires.fits;
      moments = refl;
      due = refl;
      stands = λ m visits env phase others none half.
          alerts-skip d c.sealed.ensures m k visits c.args.terms.now c.args.truths.now c.requires.now c.args.from c.next_stirred-next.result next.from (omega (arith, next.within, c.requires.due)) next.none
          (λ j low high. undue-passes b m k c.args.truths.now j (omega (arith, high, next.within, c.requires.due, many-alerts d)) others (none j low (omega (arith, high, next.within))))
          half;
    }

pub loop-next-preserved : goal.loop-next-preserved
loop-next-preserved c =
    let d = c.args.book.now in
    let b = the_book d in
    let k = c.args.now in
    let at = c.loop-next.next in
    let is = c.loop-next.invariant in
    let next = c.next_stirred-next-in-loop-next.ensures in
    let kept = c.step_stirred.ensures.due ∙ is.due in
    record {
      low = omega (arith, is.low, next.from);
      most = next.within;
      marked = next.marked;
      terms = c.step_stirred.ensures.terms;
      fits = c.step_stirred.ensures.fits;
      moments = c.step_stirred.ensures.moments ∙ is.moments;
      due = kept;
      stands = λ m visits env phase others none half.
          alerts-skip d c.sealed.ensures m k visits c.step_stirred.new.terms c.step_stirred.new.truths c.requires.now (at + 1) c.next_stirred-next-in-loop-next.result
          next.from (omega (arith, next.within, c.requires.due)) next.none
          (λ j low high. undue-passes b m k c.step_stirred.new.truths j (omega (arith, high, next.within, c.requires.due, many-alerts d))
          (subst (OthersStay b (condition_in b m) (phase_in b m) k) (sym kept) others)
          (ap (λ s. is_marked s j) kept ∙ none j (omega (arith, low, is.low)) (omega (arith, high, next.within))))
          (subst (λ n. AlertsHalf b m k n visits c.step_stirred.new.terms c.step_stirred.new.truths) (sym (add-one at))
          (c.step_stirred.ensures.stands m visits env phase (subst (OthersStay b (condition_in b m) (phase_in b m) k) (sym is.due) others)
          (ap (λ s. is_marked s at) is.due ∙ none at is.low c.loop-next-test.true) (is.stands m visits env phase others none half)));
    }

pub returns-clause-stands : goal.returns-clause-stands
returns-clause-stands c = λ m visits env phase others none half.
    let all : c.loop-next.next ≡ c.args.due = omega (arith, c.loop-next-test.false, c.loop-next.invariant.most) in
    subst (λ n. AlertsHalf (the_book c.args.book.now) m c.args.now n visits c.loop-next.terms c.loop-next.truths) all (c.loop-next.invariant.stands m visits env phase others none half)
