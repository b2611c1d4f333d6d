use Rattle.std.proofs.Common.{◌<◌, length, get_or, refl, ◌∙◌, arith}
use Rattle.std.proofs.Math.Seq.{map-set_same}
use Rattle.book_model.specs.View.{alert_of}
use Rattle.book_model.specs.Slots.{when_place}
use Rattle.book_model.proofs.Placing.{placing-more, placing-all, placing-room, written-items, alert_of-lines}
use Rattle.book_model.proofs.slots.place_procedures.Goals as goal

pub place_lines-next-requires : goal.place_lines-next-requires
place_lines-next-requires c =
    let within : c.loop-alert.alert-index < length c.loop-alert.alert-items = omega arith in
    omega (arith, placing-room c.loop-alert.invariant.placing c.alert-item.result within)

pub loop-alert-preserved : goal.loop-alert-preserved
loop-alert-preserved c =
    let items = c.loop-alert.alert-items in
    let i = c.loop-alert.alert-index in
    let d = c.alert-item.result in
    let x = get_or items i d in
    let lines = c.place_lines-next.new.lines in
    let within : i < length items = omega arith in
    record {
      same = map-set_same alert_of items i (record x { lines = lines }) d (alert_of-lines x lines c.place_lines-next.ensures.same) ∙ c.loop-alert.invariant.same;
      whens = map-set_same when_place items i (record x { lines = lines }) d refl ∙ c.loop-alert.invariant.whens;
      placing = placing-more c.loop-alert.invariant.placing d (record x { lines = lines }) _ within c.place_lines-next.ensures.placed c.place_lines-next.ensures.next;
    }

pub returns-clause-placed : goal.returns-clause-placed
returns-clause-placed c =
    rw (written-items c.args.alerts.now.len c.loop-alert.alert-items c.args.alerts.now.items (omega arith) (omega arith))
    (placing-all c.loop-alert.invariant.placing (omega arith))
