use Rattle.std.proofs.Common.{◌≡◌, ◌+◌, ◌&&◌, ◌==◌, length, ap, subst, arith}
use Rattle.book_model.specs.Sealed.{the_book}
use Rattle.book_model.proofs.BookLists.{many-parameters, many-alerts}
use Rattle.book_model.proofs.BookLimits.{sizes}
use Rattle.term_eval.specs.declared.reading.Reading.TheVariants.{Flag}
use Rattle.fwc_lane.specs.Waking.{HasWoken}
use Rattle.fwc_lane.proofs.waking.wake_alert.Goals as goal

pub overflow_add-params : goal.overflow_add-params
overflow_add-params c =
    let few = sizes c.args.book.now c.params.ensures.sealed in
    omega (arith, c.requires.alert, few.params, few.alerts, ap length c.params.ensures.value, many-alerts c.args.book.now)

pub wake-requires-clause-operand : goal.wake-requires-clause-operand
wake-requires-clause-operand c = omega (arith, c.requires.alert, ap length c.params.ensures.value, many-parameters c.args.book.now)

pub returns-clause-wakes : goal.returns-clause-wakes
returns-clause-wakes c =
    let b = the_book c.args.book.now in
    let e : length c.params.result.now + c.args.alert ≡ length b.parameters + c.args.alert = omega (arith, ap length c.params.ensures.value, many-parameters c.args.book.now) in
    subst (λ n. HasWoken b (λ o. c.args.other && (o == n)) (λ o. Flag c.args.active) c.args.terms.now c.wake.new.terms) e c.wake.ensures.wakes
