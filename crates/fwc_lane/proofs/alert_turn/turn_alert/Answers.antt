use Rattle.std.proofs.Common.{◌≡◌, ◌<◌, false, length, get_or, ap, ◌∙◌, arith}
use Rattle.std.proofs.lemmas.List.{get_or_default}
use Rattle.ecam_spec.specs.Situation.{condition_in, phase_in}
use Rattle.book_model.specs.Sealed.{the_book}
use Rattle.book_model.proofs.BookLists.{many-alerts}
use Rattle.fwc_lane.proofs.Showing.{active-is}
use Rattle.fwc_lane.proofs.AlertSteps.{was-active}
use Rattle.fwc_lane.proofs.Known.{alert-known}
use Rattle.fwc_lane.proofs.alert_turn.turn_alert.Goals as goal

pub bounds-active-alert : goal.bounds-active-alert
bounds-active-alert c = omega (arith, ap length c.active.ensures.value, c.requires.fits.active, many-alerts c.args.book.now, c.requires.alert)

pub wake_alert-requires-clause-alert : goal.wake_alert-requires-clause-alert
wake_alert-requires-clause-alert c = omega (arith, c.requires.alert, many-alerts c.args.book.now)

pub returns-clause-stands : goal.returns-clause-stands
returns-clause-stands c = λ m k visits phase truth next half.
    let d = c.args.book.now in
    let b = the_book d in
    let a = c.args.alert in
    let there : a < length b.alerts = omega (arith, c.requires.alert, many-alerts d) in
    record {
      terms = alert-known d c.sealed.ensures m k visits c.args.terms.now c.wake_alert.new.terms a there c.differ-other.result c.step_one-active.result _
          (c.step_one-active.ensures.answer (condition_in b m) (phase_in b m) k truth phase half ∙ active-is b m a k)
          c.wake_alert.ensures.wakes c.differ-other.ensures
          (λ h e. get_or_default c.active.result.now a _ false (omega (arith, ap length c.active.ensures.value, c.requires.fits.active, there)) ∙ ap (λ ys. get_or ys a false) c.active.ensures.value ∙ was-active b m k h a c.args.truths.now e there half)
          next;
      alerts = c.step_one-active.ensures.stands (condition_in b m) (phase_in b m) k truth phase half;
    }
