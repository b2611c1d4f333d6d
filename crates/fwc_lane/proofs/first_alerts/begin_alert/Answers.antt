use Rattle.std.proofs.Common.{◌≡◌, ◌<◌, length, take, get_or, slice_get, ap, ◌∙◌, arith, length-take}
use Rattle.ecam_spec.specs.Situation.{condition_in, phase_in}
use Rattle.book_model.specs.Sealed.{the_book}
use Rattle.book_model.specs.Conditions.{places}
use Rattle.book_model.proofs.BookLists.{many-alerts}
use Rattle.book_model.proofs.BookLimits.{sizes}
use Rattle.book_model.proofs.ConditionPlaces.{own-place}
use Rattle.book_model.proofs.ConditionNames.{own-names}
use Rattle.fwc_lane.proofs.AlertSteps.{own-truth, own-stands, shows-before}
use Rattle.fwc_lane.proofs.first_alerts.begin_alert.Goals as goal

pub slice_bounds-before-end : goal.slice_bounds-before-end
slice_bounds-before-end c = omega (arith, length-take c.args.alert c.active.result.now, ap length c.active.ensures.value, c.requires.fits.active, many-alerts c.args.book.now, c.requires.alert)

pub alert_number-requires : goal.alert_number-requires
alert_number-requires c = omega (arith, c.requires.alert, (sizes c.args.book.now c.alerts.ensures.sealed).alerts)

pub begin_own-holds-requires-clause-place : goal.begin_own-holds-requires-clause-place
begin_own-holds-requires-clause-place c =
    let d = c.args.book.now in
    let xs = c.alerts.result.now in
    let lt : c.args.alert < length xs = omega (arith, c.requires.alert, ap length c.alerts.ensures.value) in
    let place = own-place d c.alerts.ensures.sealed xs c.args.alert (get_or xs c.args.alert c.index-alerts-alert.result) c.alerts.ensures.value lt (ap (get_or xs c.args.alert) c.index-alerts-alert.is) in
    (the_book d, c.requires.terms, ap (slice_get (places (the_book d))) c.alert_number.ensures ∙ place)

pub begin_own-holds-requires-clause-names : goal.begin_own-holds-requires-clause-names
begin_own-holds-requires-clause-names c =
    let d = c.args.book.now in
    let xs = c.alerts.result.now in
    let lt : c.args.alert < length xs = omega (arith, c.requires.alert, ap length c.alerts.ensures.value) in
    let some : length (take c.args.alert c.active.result.now) ≡ c.args.alert = omega (arith, length-take c.args.alert c.active.result.now, ap length c.active.ensures.value, c.requires.fits.active, many-alerts d, c.requires.alert) in
    rw (c.requires.values, some) (own-names d c.alerts.ensures.sealed xs c.args.alert (get_or xs c.args.alert c.index-alerts-alert.result) c.alerts.ensures.value lt (ap (get_or xs c.args.alert) c.index-alerts-alert.is))

pub turn_alert-requires-clause-terms : goal.turn_alert-requires-clause-terms
turn_alert-requires-clause-terms c = c.begin_own-holds.ensures.fits (the_book c.args.book.now) c.requires.terms

pub returns-clause-stands : goal.returns-clause-stands
returns-clause-stands c = λ m visits lends phase half.
    let d = c.args.book.now in
    let b = the_book d in
    let a = c.args.alert in
    let xs = c.alerts.result.now in
    let lt : a < length xs = omega (arith, c.requires.alert, ap length c.alerts.ensures.value) in
    let there : a < length b.alerts = omega (arith, c.requires.alert, many-alerts d) in
    let x = get_or xs a c.index-alerts-alert.result in
    let here = ap (get_or xs a) c.index-alerts-alert.is in
    let steps = c.begin_own-holds.ensures.steps b c.requires.terms
    (ap (slice_get (places b)) c.alert_number.ensures ∙ own-place d c.alerts.ensures.sealed xs a x c.alerts.ensures.value lt here) in
    c.turn_alert.ensures.stands m 0 visits phase
    (own-truth d c.alerts.ensures.sealed xs a x c.alerts.ensures.value lt here m 0 _
    (shows-before b m 0 _ a c.args.truths.now there (record { values = lends.values; pressed = lends.pressed; one_up = lends.one_up; two_up = lends.two_up }) phase (ap (take a) c.active.ensures.value) half.alerts) visits _ c.alert_number.ensures _ _ _ steps half.terms)
    (own-stands d c.alerts.ensures.sealed xs a x c.alerts.ensures.value lt here m 0 _
    (shows-before b m 0 _ a c.args.truths.now there (record { values = lends.values; pressed = lends.pressed; one_up = lends.one_up; two_up = lends.two_up }) phase (ap (take a) c.active.ensures.value) half.alerts) visits _ c.alert_number.ensures _ _ _ steps half.terms)
    half.alerts
