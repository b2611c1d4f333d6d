use Rattle.std.proofs.Common.{◌≡◌, subst, arith}
use Rattle.book_model.specs.View.{placed_of}
use Rattle.book_model.specs.Conditions.{places}
use Rattle.fwc_lane.specs.Conditions.{StepsTerm}
use Rattle.fwc_lane.proofs.conditions.step_term.Goals as goal

pub step_later-requires-clause-place : goal.step_later-requires-clause-place
step_later-requires-clause-place c = (c.requires.place.0, placed_of c.args._term.now, c.requires.place.1, c.requires.place.2)

pub returns-then-now-gt0-clause-steps : goal.returns-then-now-gt0-clause-steps
returns-then-now-gt0-clause-steps c = λ b fits here. c.step_later.ensures.steps b (placed_of c.args._term.now) c.args.env.now fits here

pub begin_term-requires-clause-place : goal.begin_term-requires-clause-place
begin_term-requires-clause-place c = (c.requires.place.0, placed_of c.args._term.now, c.requires.place.1, c.requires.place.2, c.requires.names)

pub returns-clause-steps : goal.returns-clause-steps
returns-clause-steps c = λ b fits here.
    let first : 0 ≡ c.args.now = omega (arith, c.if-now-gt0.false) in
    subst (λ k. StepsTerm (places b) c.args.env.now k c.args.number (placed_of c.args._term.now) c.args.terms.now c.begin_term.new.terms c.begin_term.result) first
    (c.begin_term.ensures.steps b (placed_of c.args._term.now) fits here c.requires.names)
