use Rattle.std.proofs.Common.{sym}
use Rattle.fwc_lane.proofs.ZoneSteps.{flags-stay, flags-drawn}
use Rattle.fwc_lane.proofs.zones.draw_flags.Goals as goal

pub returns-then-is_kept-clause-counts : goal.returns-then-is_kept-clause-counts
returns-then-is_kept-clause-counts c = (c.is_kept.ensures c.if-is_kept.true).1

pub returns-then-is_kept-clause-rows : goal.returns-then-is_kept-clause-rows
returns-then-is_kept-clause-rows c = λ b m k first now was.
    let kept = c.is_kept.ensures c.if-is_kept.true in
    flags-stay b m k c.args.first c.args.counts.now _ first now kept.0 (sym kept.1) _ was

pub returns-clause-rows : goal.returns-clause-rows
returns-clause-rows c = λ b m k first now was. flags-drawn b m k c.from.result (record { left = c.args.left; right = c.args.right; status = c.args.status }) _ _ now c.from.ensures c.fill_flags.ensures.row
