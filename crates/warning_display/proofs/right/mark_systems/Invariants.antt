use Rattle.std.proofs.Common.{◌≡◌, ◌<◌, ◌≤◌, ◌-◌, ℕ, false, true, length, get_or}
use Rattle.ecam_spec.specs.Places.{below}
use Rattle.book_model.specs.Sealed.{the_book}
use Rattle.book_model.specs.Told.{flagged}
use Rattle.warning_display.specs.RightRows.{is_marked}
use Rattle.warning_display.proofs.right.mark_systems.Given as goal

abbrev pub invariant-loop-next : goal.invariant-loop-next
invariant-loop-next l = record {
  most : l.next ≤ length l.alerts;
  set : l.next < length l.alerts → flagged l.starred l.next ≡ true;
  long : length l.marks ≡ 64;
  marked : (s : ℕ) → s < 64 → get_or l.marks s false ≡ is_marked (the_book l.book) (flagged l.starred) (below l.next) s;
}

abbrev pub decreases-loop-next : goal.decreases-loop-next
decreases-loop-next l = length l.alerts - l.next
