use Rattle.ecam_spec.specs.Picture as spec
use Rattle.zone_rows.specs.Tracked.{tracked}
use Rattle.zone_rows.proofs.Filling.{append-set, append-past}
use Rattle.zone_rows.proofs.fill.put_next.Goals as goal

pub returns-then-count-room-clause-put : goal.returns-then-count-room-clause-put
returns-then-count-room-clause-put c =
    append-set c.args.first c.args.room c.args.count (spec.row c.args.colour c.args.text.now) (tracked c.args.rows.now c.args.changed.now)
    (tracked c.set_row.new.rows c.set_row.new.changed) c.requires.whole c.requires.zone c.if-count-room.true c.set_row.ensures.row

pub returns-clause-put : goal.returns-clause-put
returns-clause-put c =
    append-past c.args.first c.args.room c.args.count (spec.row c.args.colour c.args.text.now) (tracked c.args.rows.now c.args.changed.now) c.if-count-room.false
