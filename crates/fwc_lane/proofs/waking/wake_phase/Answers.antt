use Rattle.std.proofs.Common.{◌+◌, ◌&&◌, ◌==◌, Bool, length, sym, subst}
use Rattle.book_model.specs.Sealed.{the_book}
use Rattle.term_eval.specs.declared.reading.Reading.TheVariants.{InPhase}
use Rattle.fwc_lane.specs.Waking.{HasWoken}
use Rattle.fwc_lane.proofs.Awake.{awake-off}
use Rattle.fwc_lane.proofs.waking.wake_phase.Goals as goal

pub returns-then-other-clause-wakes : goal.returns-then-other-clause-wakes
returns-then-other-clause-wakes c =
    let b = the_book c.args.book.now in
    subst (λ (x : Bool). HasWoken b (λ o. x && (o == length b.parameters + length b.alerts)) (λ o. InPhase c.args.phase) c.args.terms.now c.turn_phase.new.terms) (sym c.if-other.true) c.turn_phase.ensures.wakes

pub returns-else-other-clause-wakes : goal.returns-else-other-clause-wakes
returns-else-other-clause-wakes c =
    let b = the_book c.args.book.now in
    awake-off b (length b.parameters + length b.alerts) (λ o. InPhase c.args.phase) c.args.terms.now c.args.other c.if-other.false
