use Rattle.std.proofs.Common.{◌≡◌, ℕ, ◌==◌, length, refl, sym, ◌∙◌, arith}
use Rattle.std.proofs.lemmas.Bool.{eqb-true, not-false}
use Rattle.ecam_spec.specs.History.{Moment}
use Rattle.ecam_spec.specs.Situation.{condition_in, phase_in}
use Rattle.book_model.specs.Sealed.{the_book}
use Rattle.book_model.specs.Conditions.{alerts_from}
use Rattle.alert_truth.specs.declared.truths.Truths.{Truths}
use Rattle.alert_truth.specs.TruthsState.{TruthsStand, OthersStay}
use Rattle.fwc_lane.specs.Conditions.{AlertsHalf, BookHalf, WasPhase}
use Rattle.fwc_lane.specs.Given.{Lends}
use Rattle.fwc_lane.proofs.AlertSteps.{alerts-end}
use Rattle.fwc_lane.proofs.alerts.step_alerts.Goals as goal

pub gather_due-requires-clause-fits : goal.gather_due-requires-clause-fits
gather_due-requires-clause-fits c = (the_book c.args.book.now, c.requires.fits)

pub gather_due-requires-clause-goes_on : goal.gather_due-requires-clause-goes_on
gather_due-requires-clause-goes_on c = omega (arith, c.requires.moments, c.requires.now)

pub step_changing-requires-clause-fits : goal.step_changing-requires-clause-fits
step_changing-requires-clause-fits c = c.gather_due.ensures.fits (the_book c.args.book.now) c.requires.fits

pub returns-clause-truths : goal.returns-clause-truths
returns-clause-truths c = λ m visits lends phase was terms stands.
    let b = the_book c.args.book.now in
    c.settle.ensures.stands (condition_in b m) (phase_in b m) c.args.now
    (c.step_changing.ensures.stands m visits lends phase
    (c.gather_due.ensures.others b (condition_in b m) (phase_in b m) c.args.now stands
    (λ same h e. sym phase ∙ eqb-true c.args.phase.number c.args.was.number (not-false (c.args.phase.number == c.args.was.number) (sym c.is_other_phase.ensures ∙ same)) ∙ was h e))
    (record { terms = terms; alerts = c.gather_due.ensures.stands b (condition_in b m) (phase_in b m) c.args.now stands })).alerts

pub returns-clause-stands : goal.returns-clause-stands
returns-clause-stands c = λ m visits lends phase was terms stands.
    let d = c.args.book.now in
    let b = the_book d in
    alerts-end d m c.args.now (length d.alerts.items) visits _ refl
    (c.step_changing.ensures.stands m visits lends phase
    (c.gather_due.ensures.others b (condition_in b m) (phase_in b m) c.args.now stands
    (λ same h e. sym phase ∙ eqb-true c.args.phase.number c.args.was.number (not-false (c.args.phase.number == c.args.was.number) (sym c.is_other_phase.ensures ∙ same)) ∙ was h e))
    (record { terms = terms; alerts = c.gather_due.ensures.stands b (condition_in b m) (phase_in b m) c.args.now stands })).terms
