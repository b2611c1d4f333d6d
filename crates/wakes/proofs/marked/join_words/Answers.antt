use Rattle.std.proofs.Common.{arith}
use Rattle.wakes.proofs.Joining.{joins}
use Rattle.wakes.proofs.marked.join_words.Goals as goal

pub returns-clause-marks : goal.returns-clause-marks
returns-clause-marks c =
    joins c.args.words.now c.args.others.now c.loop-i.words (λ p lt. c.loop-i.invariant.joined p (omega (arith, lt, c.loop-i-test.false)))
    (λ p le. c.loop-i.invariant.left p (omega (arith, le, c.loop-i.auto.i-end)))
