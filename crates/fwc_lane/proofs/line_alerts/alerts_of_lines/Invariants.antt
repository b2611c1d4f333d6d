use Rattle.book_model.specs.Sealed.{the_book}
use Rattle.fwc_lane.proofs.LineAlerts.{AreFirst}
use Rattle.fwc_lane.proofs.line_alerts.alerts_of_lines.Given as goal

abbrev pub invariant-loop-alert : goal.invariant-loop-alert
invariant-loop-alert l = AreFirst (the_book l.book) l.alert l.each.items
