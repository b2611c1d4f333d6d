use Rattle.std.proofs.Common.{◌≡◌, ℕ, ◌<◌, ◌≤◌, ◌-◌, true, false, None, length, get_or}
use Rattle.wakes.specs.Marks.{is_marked, room}
use Rattle.book_model.specs.Sealed.{the_book}
use Rattle.alert_truth.proofs.Starring.{IsHalfTaken}
use Rattle.alert_truth.proofs.Nearing.{IsNearing}
use Rattle.alert_truth.proofs.stars.Stars.settle.Given as goal

-- those so far that are asked are settled
abbrev pub invariant-loop-alert : goal.invariant-loop-alert
invariant-loop-alert l = record {
  most : l.alert ≤ length l.active;
  asks : l.alert < length l.active → is_marked l.initial.self.asked l.alert ≡ true;
  places : room l.near ≡ room l.fn.near;
  moved_places : room l.moved ≡ room l.fn.moved;
  moved : (a : ℕ) → is_marked l.moved a ≡ false → (is_marked l.fn.moved a ≡ false) × (get_or l.self.primaries.items a None ≡ get_or l.fn.self.primaries.items a None);
  half : IsHalfTaken (the_book l.book) l.active l.fn.self l.self l.initial.self.asked l.alert;
  nearing : IsNearing l.active l.present l.waiting l.fn.self l.self l.near l.alert;
}

abbrev pub decreases-loop-alert : goal.decreases-loop-alert
decreases-loop-alert l = length l.active - l.alert
