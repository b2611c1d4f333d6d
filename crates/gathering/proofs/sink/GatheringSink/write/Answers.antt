use Rattle.std.proofs.Common.{◌++◌, sym, subst, take}
use Rattle.gathering.specs.Handed.{IsHanded}
use Rattle.gathering.proofs.Handing.{handed-more}
use Rattle.gathering.proofs.Gathered.{gathers_as, gathers_no_more, where_failed}
use Rattle.gathering.proofs.sink.GatheringSink.write.Goals as goal

pub returns-in_err-make_room-clause-kept : goal.returns-in_err-make_room-clause-kept
returns-in_err-make_room-clause-kept g c =
    let old = c.args.self.now in
    let new = c.make_room.new.self in
    where_failed _ c.from_residual.result
    (gathers_no_more g.O.Sink.agrees old.out.ghost_name old.out.now new.out.now old.bytes.items new.bytes.items
    new.out.ghost_name c.in_err-make_room.ensures.same_sink c.in_err-make_room.ensures.handed)

pub returns-clause-appended : goal.returns-clause-appended
returns-clause-appended g c =
    let old = c.args.self.now in
    let new = c.make_room.new.self in
    let more = take c.min-count.result c.args.bytes.now in
    gathers_as g.O.Sink.agrees old.out.ghost_name old.out.now new.out.now old.bytes.items c.append.new.bytes.items more
    new.out.ghost_name c.in_ok-make_room.ensures.same_sink
    (subst (IsHanded g.O.Sink.agrees old.out.now new.out.now (old.bytes.items ++ more)) (sym c.append.ensures)
    (handed-more g.O.Sink.agrees old.out.now new.out.now old.bytes.items new.bytes.items more c.in_ok-make_room.ensures.handed))
