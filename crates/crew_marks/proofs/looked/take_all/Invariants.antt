use Rattle.std.proofs.Common.{◌≡◌, ◌<◌, ℕ, true, false, ◌||◌, get_or}
use Rattle.wakes.specs.Marks as numbers
use Rattle.wakes.specs.Marks.{room}
use Rattle.crew_marks.specs.MarkSets.{mark_at, is_marked}
use Rattle.crew_marks.proofs.looked.take_all.Given as goal

abbrev pub invariant-loop-alert : goal.invariant-loop-alert
invariant-loop-alert l = record {
  room : room l.looked ≡ room l.initial.looked;
  marked : (a : ℕ) → is_marked (mark_at l.sets a) ≡ true → numbers.is_marked l.looked a ≡ true;
  taken : (a : ℕ) → a < l.alert → (get_or l.up a false || get_or l.waiting a false) ≡ true → numbers.is_marked l.looked a ≡ true;
}
