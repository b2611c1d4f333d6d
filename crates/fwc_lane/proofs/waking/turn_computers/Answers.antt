use Rattle.std.proofs.Common.{◌≡◌, ◌+◌, ◌&&◌, ◌||◌, ◌==◌, if◌then◌else◌, length, sym, ap, ◌∙◌, subst, arith}
use Rattle.std.proofs.lemmas.Bool.{eqb-true, ne_eqb}
use Rattle.book_model.specs.Sealed.{the_book}
use Rattle.book_model.proofs.BookLists.{many-parameters, many-alerts}
use Rattle.term_eval.specs.Woken.{differ}
use Rattle.term_eval.specs.declared.reading.Reading.TheVariants.{Flag}
use Rattle.fwc_lane.specs.Waking.{HasWoken}
use Rattle.fwc_lane.proofs.Awake.{awake-then}
use Rattle.fwc_lane.proofs.Listing.{right-true}
use Rattle.fwc_lane.proofs.waking.turn_computers.Goals as goal

pub wake-requires-clause-operand : goal.wake-requires-clause-operand
wake-requires-clause-operand c = omega (arith, ap length c.params.ensures.value, ap length c.alerts.ensures.value, many-parameters c.args.book.now, many-alerts c.args.book.now)

pub wake-requires-2-clause-operand : goal.wake-requires-2-clause-operand
wake-requires-2-clause-operand c = omega (arith, ap length c.params.ensures.value, ap length c.alerts.ensures.value, many-parameters c.args.book.now, many-alerts c.args.book.now)

pub returns-clause-wakes : goal.returns-clause-wakes
returns-clause-wakes c =
    let b = the_book c.args.book.now in
    let old = c.args.terms.now in
    let e : length c.params.result.now + length c.alerts.result.now ≡ length b.parameters + length b.alerts =
    omega (arith, ap length c.params.ensures.value, ap length c.alerts.ensures.value, many-parameters c.args.book.now, many-alerts c.args.book.now) in
    let second : length c.params.result.now + length c.alerts.result.now + 26 + 1 ≡ length b.parameters + length b.alerts + 27 = omega (arith, e) in
    awake-then b (λ o. c.differ-one.result && (o == length b.parameters + length b.alerts + 26)) (λ o. c.differ-two.result && (o == length b.parameters + length b.alerts + 27))
    (λ o. (differ c.args.one_up old.one_up && (o == length b.parameters + length b.alerts + 26)) || (differ c.args.two_up old.two_up && (o == length b.parameters + length b.alerts + 27)))
    (λ o. Flag c.args.one_up) (λ o. Flag c.args.two_up) (λ o. Flag (if o == length b.parameters + length b.alerts + 26 then c.args.one_up else c.args.two_up))
    old c.wake.new.terms c.wake-2.new.terms
    (λ o.
    ap (λ x. (x && (o == length b.parameters + length b.alerts + 26)) || (differ c.args.two_up old.two_up && (o == length b.parameters + length b.alerts + 27))) (sym c.differ-one.ensures)
    ∙ ap (λ x. (c.differ-one.result && (o == length b.parameters + length b.alerts + 26)) || (x && (o == length b.parameters + length b.alerts + 27))) (sym c.differ-two.ensures))
    (λ o on. ap (λ x. Flag (if x then c.args.one_up else c.args.two_up)) (right-true c.differ-one.result (o == length b.parameters + length b.alerts + 26) on))
    (λ o on.
    let at : o ≡ length b.parameters + length b.alerts + 27 = eqb-true o (length b.parameters + length b.alerts + 27) (right-true c.differ-two.result (o == length b.parameters + length b.alerts + 27) on) in
    ap (λ x. Flag (if x then c.args.one_up else c.args.two_up)) (ne_eqb o (length b.parameters + length b.alerts + 26) (λ e. absurd (omega (arith, at, e)))))
    (subst (λ n. HasWoken b (λ o. c.differ-one.result && (o == n)) (λ o. Flag c.args.one_up) old c.wake.new.terms) (ap (λ n. n + 26) e) c.wake.ensures.wakes)
    (subst (λ n. HasWoken b (λ o. c.differ-two.result && (o == n)) (λ o. Flag c.args.two_up) c.wake.new.terms c.wake-2.new.terms) second c.wake-2.ensures.wakes)
