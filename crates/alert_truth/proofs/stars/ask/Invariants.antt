use Rattle.std.proofs.Common.{◌≡◌, ℕ, ◌<◌, ◌≤◌, ◌-◌, ◌==◌, true, false, [], length, get_or}
use Rattle.std.specs.List.{list_any}
use Rattle.wakes.specs.Marks.{is_marked, room}
use Rattle.book_model.specs.Sealed.{the_book}
use Rattle.alert_truth.proofs.Listings.{secondaries_of}
use Rattle.alert_truth.proofs.stars.ask.Given as goal

-- all that turned are asked, and the secondaries of those so far
abbrev pub invariant-loop-alert : goal.invariant-loop-alert
invariant-loop-alert l = record {
  most : l.alert ≤ length l.book.alerts.items;
  places : room l.asked ≡ room l.fn.asked;
  own : (a : ℕ) → is_marked l.asked a ≡ false → is_marked l.turned a ≡ false;
  listers : (a : ℕ) → is_marked l.asked a ≡ false → (p : ℕ) → p < l.alert → is_marked l.turned p ≡ true
      → list_any (λ s. s == a) (get_or (secondaries_of (the_book l.book)) p []) ≡ false;
}

abbrev pub decreases-loop-alert : goal.decreases-loop-alert
decreases-loop-alert l = length l.book.alerts.items - l.alert
