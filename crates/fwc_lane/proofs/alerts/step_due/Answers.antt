use Rattle.std.proofs.Common.{◌≡◌, ◌+◌, slice_get, refl, ap, ◌∙◌, arith}
use Rattle.book_model.specs.View.{placed_of}
use Rattle.book_model.specs.Sealed.{the_book}
use Rattle.book_model.specs.Conditions.{places, alerts_from, world_of}
use Rattle.book_model.proofs.BookLimits.{sizes}
use Rattle.book_model.proofs.ConditionPlaces.{own-place}
use Rattle.fwc_lane.specs.Given.{ShowsFirst}
use Rattle.fwc_lane.proofs.AlertSteps.{alert-placed, own-truth, own-stands}
use Rattle.fwc_lane.proofs.FlagSteps.{with-item}
use Rattle.fwc_lane.proofs.alerts.step_due.Goals as goal

pub alert_number-requires : goal.alert_number-requires
alert_number-requires c = omega (arith, c.requires.alert, (sizes c.args.book.now c.sealed.ensures).alerts)

pub step_later-holds-requires-clause-place : goal.step_later-holds-requires-clause-place
step_later-holds-requires-clause-place c = alert-placed c.args.book.now c.sealed.ensures c.args.alert _ c.args.terms.now c.requires.alert c.alert_number.ensures c.requires.terms

pub turn_alert-requires-clause-terms : goal.turn_alert-requires-clause-terms
turn_alert-requires-clause-terms c = c.step_later-holds.ensures.fits (the_book c.args.book.now) c.requires.terms

pub returns-clause-stands : goal.returns-clause-stands
returns-clause-stands c = λ m visits env phase half.
    let d = c.args.book.now in
    let b = the_book d in
    let k = c.args.now in
    let a = c.args.alert in
    let shown : ShowsFirst env (world_of b m (alerts_from + a)) k = λ e. absurd (omega (arith, c.requires.later, e)) in
    with-item d.alerts.items a c.requires.alert
    (λ x here.
    let steps = c.step_later-holds.ensures.steps b (placed_of x.when) env c.requires.terms
    (ap (slice_get (places b)) c.alert_number.ensures ∙ own-place d c.sealed.ensures d.alerts.items a x refl c.requires.alert here) in
    c.turn_alert.ensures.stands m k visits phase
    (own-truth d c.sealed.ensures d.alerts.items a x refl c.requires.alert here m k env shown visits _ c.alert_number.ensures _ _ _ steps half.terms)
    (own-stands d c.sealed.ensures d.alerts.items a x refl c.requires.alert here m k env shown visits _ c.alert_number.ensures _ _ _ steps half.terms)
    half.alerts)
