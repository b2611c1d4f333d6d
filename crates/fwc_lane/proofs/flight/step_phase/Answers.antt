use Rattle.ecam_spec.specs.Situation.{flight, phase_in}
use Rattle.book_model.specs.Sealed.{the_book}
use Rattle.fwc_lane.proofs.Known.{phase-known}
use Rattle.fwc_lane.proofs.flight.step_phase.Goals as goal

pub returns-clause-phase : goal.returns-clause-phase
unfolding phase_in
returns-clause-phase c = λ m visited lends half stands.
    c.step-phase.ensures.answer (flight (the_book c.args.book.now) m) c.args.now stands (c.step_inputs-inputs.ensures.inputs m visited lends half)

pub returns-clause-state : goal.returns-clause-state
returns-clause-state c = λ m visited lends half stands.
    c.step-phase.ensures.stands (flight (the_book c.args.book.now) m) c.args.now stands (c.step_inputs-inputs.ensures.inputs m visited lends half)

pub returns-clause-stands : goal.returns-clause-stands
unfolding phase_in
returns-clause-stands c = λ m visited lends half stands was.
    let d = c.args.book.now in
    let b = the_book d in
    let inputs = c.step_inputs-inputs.ensures.inputs m visited lends half in
    phase-known d c.sealed.ensures m c.args.now visited _ c.wake_phase.new.terms c.is_other_phase-other.result c.step-phase.result c.args.was.number
    (c.step-phase.ensures.answer (flight b m) c.args.now stands inputs) c.wake_phase.ensures.wakes c.is_other_phase-other.ensures was
    (c.step_inputs-inputs.ensures.stands m visited lends half)
