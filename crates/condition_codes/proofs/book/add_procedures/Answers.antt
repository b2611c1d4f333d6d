use Rattle.book_model.specs.Slots.{lines_places}
use Rattle.condition_codes.proofs.Walking.{adds-more}
use Rattle.condition_codes.proofs.book.add_procedures.Goals as goal

pub loop-alert-preserved : goal.loop-alert-preserved
loop-alert-preserved c = record {
  added = adds-more c.args.pieces.now c.loop-alert.pieces c.add_lines.new.pieces c.alerts-alerts.result.now c.loop-alert.alert-index c.alert-item.result c.loop-alert-test.true c.alert-item.is lines_places
      c.loop-alert.invariant.added c.in_ok-add_lines.ensures;
}
