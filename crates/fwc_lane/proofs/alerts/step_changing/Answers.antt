use Rattle.std.proofs.Common.{◌≡◌, ◌<◌, ℕ, length, sym, subst, arith}
use Rattle.ecam_spec.specs.Situation.{phase_in}
use Rattle.book_model.specs.Sealed.{the_book}
use Rattle.fwc_lane.specs.Conditions.{AlertsHalf}
use Rattle.fwc_lane.specs.Given.{Lends}
use Rattle.fwc_lane.proofs.alerts.step_changing.Goals as goal

pub returns-then-now-gt0-clause-stands : goal.returns-then-now-gt0-clause-stands
returns-then-now-gt0-clause-stands c = λ m visits lends phase others half. c.step_later_alerts.ensures.stands m visits c.args.env.now phase others half

pub returns-clause-stands : goal.returns-clause-stands
returns-clause-stands c = λ m visits lends phase others half.
    let b = the_book c.args.book.now in
    let first : 0 ≡ c.args.now = omega (arith, c.if-now-gt0.false) in
    subst
    (λ n. Lends b m n c.args.env.now → c.args.phase.number ≡ phase_in b m n → AlertsHalf b m n 0 visits c.args.terms.now c.args.truths.now
    → AlertsHalf b m n (length c.args.book.now.alerts.items) visits c.begin_alerts.new.terms c.begin_alerts.new.truths)
    first (λ lends phase half. c.begin_alerts.ensures.stands m visits lends phase half) lends phase half
