use Rattle.std.proofs.Common.{◌≡◌, ◌<◌, ◌+◌, Bool, true, false, not, length, slice_get, slice_index_or, refl, sym, ap, ◌∙◌, arith}
use Rattle.std.proofs.Math.Bool.{beq}
use Rattle.std.proofs.lemmas.List.{get_or_default}
use Rattle.std.proofs.lemmas.Option.{slice_get_within}
use Rattle.book_model.specs.View.{placed_of}
use Rattle.book_model.specs.Sealed.{the_book}
use Rattle.book_model.specs.Conditions.{places, alerts_from, world_of}
use Rattle.book_model.proofs.BookLimits.{sizes}
use Rattle.book_model.proofs.ConditionPlaces.{own-place}
use Rattle.fwc_lane.specs.Given.{ShowsFirst}
use Rattle.fwc_lane.proofs.AlertSteps.{alert-placed, own-truth, own-stands, stirred-passed}
use Rattle.fwc_lane.proofs.FlagSteps.{with-item}
use Rattle.fwc_lane.proofs.alerts.step_stirred.Goals as goal

-- flags between which no difference is told are the same
same-flag : (now was : Bool) → not (beq now was) ≡ false → now ≡ was
same-flag true true same = refl
same-flag true false same = absurd (let w : true ≡ false = same in cc)
same-flag false true same = absurd (let w : true ≡ false = same in cc)
same-flag false false same = refl

pub alert_number-number-requires : goal.alert_number-number-requires
alert_number-number-requires c = omega (arith, c.requires.alert, (sizes c.args.book.now c.sealed.ensures).alerts)

pub run_term-holds-requires-clause-place : goal.run_term-holds-requires-clause-place
run_term-holds-requires-clause-place c = alert-placed c.args.book.now c.sealed.ensures c.args.alert _ c.args.terms.now c.requires.alert c.alert_number-number.ensures c.requires.terms

pub index-held-requires : goal.index-held-requires
index-held-requires c =
    let (b, p, fits, here) = alert-placed c.args.book.now c.sealed.ensures c.args.alert c.alert_number-number.result c.args.terms.now c.requires.alert c.alert_number-number.ensures c.requires.terms in
    let inside : c.alert_number-number.result < length (places b) = slice_get_within (places b) c.alert_number-number.result p here in
    omega (arith, inside, fits.truths, c.args.terms.now.truths.ok.0)

pub turn_alert-requires-clause-terms : goal.turn_alert-requires-clause-terms
turn_alert-requires-clause-terms c = c.run_term-holds.ensures.fits (the_book c.args.book.now) c.requires.terms

pub returns-else-holds-held-clause-terms : goal.returns-else-holds-held-clause-terms
returns-else-holds-held-clause-terms c = c.run_term-holds.ensures.fits (the_book c.args.book.now) c.requires.terms

pub returns-then-holds-held-clause-stands : goal.returns-then-holds-held-clause-stands
returns-then-holds-held-clause-stands c = λ m visits env phase others off half.
    let d = c.args.book.now in
    let b = the_book d in
    let k = c.args.now in
    let a = c.args.alert in
    let shown : ShowsFirst env (world_of b m (alerts_from + a)) k = λ e. absurd (omega (arith, c.requires.later, e)) in
    with-item d.alerts.items a c.requires.alert
    (λ x here.
    let steps = c.run_term-holds.ensures.steps b (placed_of x.when) env c.requires.terms
    (ap (slice_get (places b)) c.alert_number-number.ensures ∙ own-place d c.sealed.ensures d.alerts.items a x refl c.requires.alert here) in
    c.turn_alert.ensures.stands m k visits phase
    (own-truth d c.sealed.ensures d.alerts.items a x refl c.requires.alert here m k env shown visits _ c.alert_number-number.ensures _ _ _ steps half.terms)
    (own-stands d c.sealed.ensures d.alerts.items a x refl c.requires.alert here m k env shown visits _ c.alert_number-number.ensures _ _ _ steps half.terms)
    half.alerts)

pub returns-else-holds-held-clause-stands : goal.returns-else-holds-held-clause-stands
returns-else-holds-held-clause-stands c = λ m visits env phase others off half.
    let d = c.args.book.now in
    let b = the_book d in
    let a = c.args.alert in
    let (b', p, fits, at) = alert-placed d c.sealed.ensures a c.alert_number-number.result c.args.terms.now c.requires.alert c.alert_number-number.ensures c.requires.terms in
    let inside : c.alert_number-number.result < length (places b') = slice_get_within (places b') c.alert_number-number.result p at in
    let held =
    c.index-held.ensures
    ∙ get_or_default c.args.terms.now.truths.items c.alert_number-number.result c.index-held.result.now false (omega (arith, inside, fits.truths))
    ∙ ap (λ n. slice_index_or c.args.terms.now.truths.items n false) c.alert_number-number.ensures in
    with-item d.alerts.items a c.requires.alert
    (λ x here.
    let steps = c.run_term-holds.ensures.steps b (placed_of x.when) env c.requires.terms
    (ap (slice_get (places b)) c.alert_number-number.ensures ∙ own-place d c.sealed.ensures d.alerts.items a x refl c.requires.alert here) in
    stirred-passed d c.sealed.ensures a x c.requires.alert here m c.args.now env c.requires.later visits _ c.alert_number-number.ensures _ _ _ c.args.truths.now steps
    (same-flag c.run_term-holds.result c.index-held.result.now c.if-holds-held.false ∙ held) others off half)
