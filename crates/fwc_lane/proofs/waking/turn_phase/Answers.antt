use Rattle.std.proofs.Common.{◌≡◌, ◌+◌, ◌==◌, length, ap, subst, arith}
use Rattle.book_model.specs.Sealed.{the_book}
use Rattle.book_model.proofs.BookLists.{many-parameters, many-alerts}
use Rattle.term_eval.specs.declared.reading.Reading.TheVariants.{InPhase}
use Rattle.fwc_lane.specs.Waking.{HasWoken}
use Rattle.fwc_lane.proofs.waking.turn_phase.Goals as goal

pub wake-requires-clause-operand : goal.wake-requires-clause-operand
wake-requires-clause-operand c = omega (arith, ap length c.params.ensures.value, ap length c.alerts.ensures.value, many-parameters c.args.book.now, many-alerts c.args.book.now)

pub returns-clause-wakes : goal.returns-clause-wakes
returns-clause-wakes c =
    let b = the_book c.args.book.now in
    let e : length c.params.result.now + length c.alerts.result.now ≡ length b.parameters + length b.alerts =
    omega (arith, ap length c.params.ensures.value, ap length c.alerts.ensures.value, many-parameters c.args.book.now, many-alerts c.args.book.now) in
    subst (λ n. HasWoken b (λ o. o == n) (λ o. InPhase c.args.phase) c.args.terms.now c.wake.new.terms) e c.wake.ensures.wakes
