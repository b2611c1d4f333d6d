use Rattle.std.proofs.Common.{◌≡◌, ◌<◌, ◌≤◌, ◌+◌, length, ap, sym, subst, ◌∙◌, arith, add-one}
use Rattle.book_model.specs.Sealed.{the_book}
use Rattle.fwc_lane.specs.Conditions.{AlertsHalf}
use Rattle.fwc_lane.proofs.first_alerts.begin_alerts.Goals as goal

pub loop-alert-preserved : goal.loop-alert-preserved
loop-alert-preserved c = record {
  most = omega (arith, c.loop-alert-test.true, ap length c.alerts-alert-end.ensures.value);
  terms = c.begin_alert.ensures.terms;
  fits = c.begin_alert.ensures.fits;
  moments = c.begin_alert.ensures.moments ∙ c.loop-alert.invariant.moments;
  stands = λ m visits lends phase half.
      subst (λ n. AlertsHalf (the_book c.args.book.now) m 0 n visits c.begin_alert.new.terms c.begin_alert.new.truths) (sym (add-one c.loop-alert.alert))
      (c.begin_alert.ensures.stands m visits lends phase (c.loop-alert.invariant.stands m visits lends phase half));
}

pub returns-clause-stands : goal.returns-clause-stands
returns-clause-stands c = λ m visits lends phase half.
    let all : c.loop-alert.alert ≡ length c.args.book.now.alerts.items = omega (arith, c.loop-alert-test.false, c.loop-alert.invariant.most, ap length c.alerts-alert-end.ensures.value) in
    subst (λ n. AlertsHalf (the_book c.args.book.now) m 0 n visits c.loop-alert.terms c.loop-alert.truths) all
    (c.loop-alert.invariant.stands m visits lends phase half)
