use Rattle.std.proofs.Common.{sym, ◌∙◌}
use Rattle.alert_truth.proofs.Moments.{since-on, since-off}
use Rattle.alert_truth.proofs.run.since_when.Goals as goal

pub returns-then-cond : goal.returns-then-cond
returns-then-cond c = λ p before now. c.or.ensures ∙ since-on p c.args.now c.args.before before (sym now ∙ c.if-cond.true)

pub returns-else-cond : goal.returns-else-cond
returns-else-cond c = λ p before now. since-off p c.args.now (sym now ∙ c.if-cond.false)
