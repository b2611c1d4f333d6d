use Rattle.std.proofs.Common.{◌+◌}
use Rattle.book_model.specs.Slots.{when_place}
use Rattle.book_model.specs.Conditions.{alerts_from}
use Rattle.book_model.proofs.ConditionPlaces.{own-place}
use Rattle.condition_codes.proofs.Limits.{fits}
use Rattle.condition_codes.proofs.Walking.{adds-next}
use Rattle.condition_codes.proofs.book.add_alerts.Goals as goal

pub add-requires : goal.add-requires
add-requires c =
    let alerts = c.alerts-alerts in
    let i = c.loop-alert.alert-index in
    let x = c.alert-item.result in
    fits c.args.book.now alerts.ensures.sealed (alerts_from + i) x.when
    (own-place c.args.book.now alerts.ensures.sealed alerts.result.now i x alerts.ensures.value c.loop-alert-test.true c.alert-item.is)

pub loop-alert-preserved : goal.loop-alert-preserved
loop-alert-preserved c = record {
  added = adds-next c.args.pieces.now c.loop-alert.pieces c.add.new.self c.alerts-alerts.result.now c.loop-alert.alert-index c.alert-item.result c.loop-alert-test.true c.alert-item.is when_place
      c.loop-alert.invariant.added c.in_ok-add.ensures;
}
