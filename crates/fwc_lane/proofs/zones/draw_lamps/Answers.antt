use Rattle.std.proofs.Common.{suc}
use Rattle.ecam_spec.specs.Screen.{attention}
use Rattle.fwc_lane.proofs.ZoneSteps.{lamps-stay, lamps-drawn}
use Rattle.fwc_lane.proofs.zones.draw_lamps.Goals as goal

pub returns-then-is_dark-clause-rows : goal.returns-then-is_dark-clause-rows
returns-then-is_dark-clause-rows c = λ b m k first scene was.
    let kept = c.is_dark.ensures c.if-is_dark.true in
    lamps-stay b m k c.args.first c.changed.result first kept.0 kept.1 (c.changed.ensures.answer b (attention b m) k scene.attention) _ was

pub returns-clause-rows : goal.returns-clause-rows
returns-clause-rows c = λ b m k first scene was.
    lamps-drawn b m k c.warn.result c.caut.result c.sound.result _ _ (c.warn.ensures.answer b (attention b m) (suc k) scene.attention) (c.caut.ensures.answer b (attention b m) (suc k) scene.attention)
    (c.sound.ensures.answer b (attention b m) (suc k) scene.attention) c.fill_lamps.ensures.rows
