use Rattle.std.proofs.Common.{◌≡◌, ◌+◌, length, refl, sym, ap, subst, ◌∙◌, arith, add-one}
use Rattle.book_model.specs.Sealed.{the_book}
use Rattle.ecam_spec.specs.Situation.{condition_in, phase_in}
use Rattle.alert_truth.specs.TruthsState.{OthersStay}
use Rattle.fwc_lane.specs.Conditions.{AlertsHalf}
use Rattle.fwc_lane.specs.Waking.{NoneMarked}
use Rattle.fwc_lane.proofs.alerts.step_later_alerts.Goals as goal

pub loop-phase-preserved : goal.loop-phase-preserved
loop-phase-preserved c =
    let b = the_book c.args.book.now in
    let k = c.args.now in
    let is = c.loop-phase.invariant in
    record {
      most = omega (arith, c.if-due-end.false, ap length c.alerts-end.ensures.value);
      terms = c.step_due.ensures.terms;
      fits = c.step_due.ensures.fits;
      moments = c.step_due.ensures.moments ∙ c.step_up_to.ensures.moments ∙ is.moments;
      due = c.step_due.ensures.due ∙ c.step_up_to.ensures.due ∙ is.due;
      stands = λ m visits env phase others half.
          subst (λ n. AlertsHalf b m k n visits c.step_due.new.terms c.step_due.new.truths) (sym (add-one c.next_due-due.result))
          (c.step_due.ensures.stands m visits env phase
          (c.step_up_to.ensures.stands m visits env phase (subst (OthersStay b (condition_in b m) (phase_in b m) k) (sym is.due) others) c.next_due-due.ensures.none
          (is.stands m visits env phase others half)));
    }

pub returns-then-due-end-clause-stands : goal.returns-then-due-end-clause-stands
returns-then-due-end-clause-stands c = λ m visits env phase others half.
    let b = the_book c.args.book.now in
    let k = c.args.now in
    let is = c.loop-phase.invariant in
    let all : c.next_due-due.result ≡ length c.args.book.now.alerts.items = omega (arith, c.if-due-end.true, c.next_due-due.ensures.within, ap length c.alerts-end.ensures.value) in
    subst (λ n. AlertsHalf b m k n visits c.step_up_to.new.terms c.step_up_to.new.truths) all
    (c.step_up_to.ensures.stands m visits env phase (subst (OthersStay b (condition_in b m) (phase_in b m) k) (sym is.due) others) c.next_due-due.ensures.none
    (is.stands m visits env phase others half))
