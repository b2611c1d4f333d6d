use Rattle.std.proofs.Common.{◌≡◌, subst, arith}
use Rattle.book_model.specs.Conditions.{places}
use Rattle.fwc_lane.specs.Conditions.{StepsTerm}
use Rattle.fwc_lane.proofs.conditions.step_stirred.Goals as goal

pub run_term-requires-clause-place : goal.run_term-requires-clause-place
run_term-requires-clause-place c =
    let (b, p, fits, here, names) = c.requires.place in
    (b, p, fits, here)

pub run_term-requires-clause-woken : goal.run_term-requires-clause-woken
run_term-requires-clause-woken c =
    let (b, p, fits, here, names) = c.requires.place in
    fits.stirs c.args.number c.requires.stirred

pub returns-then-now-gt0-clause-steps : goal.returns-then-now-gt0-clause-steps
returns-then-now-gt0-clause-steps c = λ b p fits here names. c.run_term.ensures.steps b p (record c.args.env.now { phase = c.args.phase; active = c.args.active }) fits here

pub returns-clause-steps : goal.returns-clause-steps
returns-clause-steps c = λ b p fits here names.
    let first : 0 ≡ c.args.now = omega (arith, c.if-now-gt0.false) in
    subst (λ k. StepsTerm (places b) (record c.args.env.now { phase = c.args.phase; active = c.args.active }) k c.args.number p c.args.terms.now c.begin_whole.new.terms c.begin_whole.result) first
    (c.begin_whole.ensures.steps b p fits here names)
