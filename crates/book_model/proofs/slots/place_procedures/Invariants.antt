use Rattle.std.proofs.Common.{◌≡◌, map}
use Rattle.book_model.specs.View.{alert_of}
use Rattle.book_model.specs.Slots.{lines_trees, lines_places, when_place}
use Rattle.book_model.proofs.Placing.{Placing}
use Rattle.book_model.proofs.slots.place_procedures.Given as goal

abbrev pub invariant-loop-alert : goal.invariant-loop-alert
invariant-loop-alert l = record {
  same : map alert_of l.alert-items ≡ map alert_of l.fn.alerts.items;
  whens : map when_place l.alert-items ≡ map when_place l.fn.alerts.items;
  placing : Placing lines_trees lines_places l.fn.alerts.items l.alert-items l.alert-index l.at l.next;
}
