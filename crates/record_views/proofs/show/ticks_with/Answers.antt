use Rattle.std.proofs.Common.{sym, ◌∙◌}
use Rattle.record_views.proofs.Viewed.{one-more-tick, no-more-ticks}
use Rattle.record_views.proofs.show.ticks_with.Goals as goal

pub returns-then-is_tick : goal.returns-then-is_tick
returns-then-is_tick c = λ h count. one-more-tick c.args.event.now (sym c.is_tick.ensures ∙ c.if-is_tick.true) c.args.ticks h count

pub returns : goal.returns
returns c = λ h count. no-more-ticks c.args.event.now (sym c.is_tick.ensures ∙ c.if-is_tick.false) c.args.ticks h count
