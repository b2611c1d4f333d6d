use Rattle.std.proofs.Common.{◌∙◌}
use Rattle.book_model.specs.Conditions.{places}
use Rattle.fwc_lane.proofs.Counting.{counted-none}
use Rattle.fwc_lane.proofs.waking.wake_first.Goals as goal

pub returns-then-now-eq0-clause-counts : goal.returns-then-now-eq0-clause-counts
returns-then-now-eq0-clause-counts c = λ b visited are many is.
    c.wake_all.ensures.counts b visited are many (counted-none (places b) c.clear.new.self visited c.args.cells.now.visits c.clear.ensures.none is)

pub returns-clause-counts : goal.returns-clause-counts
returns-clause-counts c = λ b visited are many is.
    c.wake_due.ensures.counts b visited are (c.requires.dues ∙ many) (counted-none (places b) c.clear.new.self visited c.args.cells.now.visits c.clear.ensures.none is)
