use Rattle.std.proofs.Common.{◌∙◌}
use Rattle.book_model.specs.Told.{flagged}
use Rattle.status_page.proofs.ActiveBelow.{active-same}
use Rattle.status_page.proofs.active.next_active.Goals as goal

pub loop-i-preserved : goal.loop-i-preserved
loop-i-preserved c = active-same (flagged c.args.active.now) c.loop-i.i c.if-active-i.false ∙ c.loop-i.invariant
