use Rattle.std.proofs.Common.{◌≡◌, ◌<◌, ◌≤◌, ◌-◌, true, length}
use Rattle.book_model.specs.Sealed.{the_book}
use Rattle.wakes.specs.Marks.{is_marked}
use Rattle.crew_marks.specs.MarkSets.{AreMany}
use Rattle.crew_marks.specs.MarkStep.{mark_after, sight_of}
use Rattle.crew_marks.proofs.Settling.{ArePassed, step_in}
use Rattle.crew_marks.proofs.looked.step_looked.Given as goal

abbrev pub invariant-loop-next : goal.invariant-loop-next
invariant-loop-next l = record {
  most : l.next ≤ length l.up;
  on : l.next < length l.up → is_marked l.looked l.next ≡ true;
  many : AreMany l.sets (length (the_book l.book).alerts);
  passed :
      ArePassed
      (step_in l.looked (λ a m. mark_after m (sight_of (the_book l.book) l.up l.waiting l.target a) l.actions))
      l.initial.sets l.next l.sets l.changed;
}

abbrev pub decreases-loop-next : goal.decreases-loop-next
decreases-loop-next l = length l.up - l.next
