use Rattle.zone_rows.specs.Tracked.{tracked}
use Rattle.zone_rows.proofs.Filling.{blanked-more, blanked-zone}
use Rattle.zone_rows.proofs.fill.blank_rest.Goals as goal

pub loop-i-preserved : goal.loop-i-preserved
loop-i-preserved c = record {
  whole = c.put_next.ensures.whole;
  blanked =
      blanked-more c.args.first c.args.room c.args.count c.loop-i.i c.put_next.result (tracked c.args.rows.now c.args.changed.now)
      (tracked c.loop-i.rows c.loop-i.changed) (tracked c.put_next.new.rows c.put_next.new.changed) c.loop-i.auto.i c.loop-i-test.true c.loop-i.invariant.blanked
      c.put_next.ensures.put c.put_next.ensures.count;
}

pub returns-clause-zone : goal.returns-clause-zone
returns-clause-zone c =
    blanked-zone c.args.first c.args.room c.args.count c.loop-i.i (tracked c.args.rows.now c.args.changed.now) (tracked c.loop-i.rows c.loop-i.changed)
    c.loop-i.auto.i-end c.loop-i-test.false c.loop-i.auto.i c.loop-i.invariant.blanked
