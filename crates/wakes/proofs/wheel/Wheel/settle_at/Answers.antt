use Rattle.std.proofs.Common.{◌<◌, ◌∙◌, ap, arith}
use Rattle.std.specs.Box.{boxed_slice_items}
use Rattle.wakes.specs.Turning.{keys_of}
use Rattle.wakes.proofs.Wheels.{settle-looks, key-here}
use Rattle.wakes.proofs.wheel.Wheel.settle_at.Goals as goal

pub loop-item-preserved : goal.loop-item-preserved
loop-item-preserved c =
    let inv = c.loop-item.invariant in
    let within : c.loop-item.item < c.loop-item.self.rows.count = omega (arith, c.loop-item-test.true, inv.count, c.len-item-end.ensures) in
    let key = key-here _ (keys_of c.args.self.now) c.loop-item.item c.index.result.now (ap boxed_slice_items inv.keys) (omega (arith, within, inv.count)) c.index.ensures in
    record {
      keys = inv.keys;
      time = inv.time;
      count = c.wait.ensures.count ∙ inv.count;
      rows = c.wait.ensures.rows;
      looks = settle-looks (keys_of c.args.self.now) c.loop-item.self.rows c.wait.new.rows c.args.now c.loop-item.item c.index.result.now within c.wait.ensures.never c.wait.ensures.waits key inv.looks;
    }
