use Rattle.std.proofs.Common.{◌≡◌, [], ◌∷◌, map}
use Rattle.book_model.specs.View.{alert_of}
use Rattle.book_model.specs.Slots.{when_tree, when_place}
use Rattle.book_model.proofs.Placing.{Placing}
use Rattle.book_model.proofs.slots.place_alerts.Given as goal

abbrev pub invariant-loop-alert : goal.invariant-loop-alert
invariant-loop-alert l = record {
  same : map alert_of l.alert-items ≡ map alert_of l.fn.alerts.items;
  lines : map (λ a. a.lines) l.alert-items ≡ map (λ a. a.lines) l.fn.alerts.items;
  placing : Placing (λ a. when_tree a ∷ []) (λ a. when_place a ∷ []) l.fn.alerts.items l.alert-items l.alert-index l.at l.next;
}
