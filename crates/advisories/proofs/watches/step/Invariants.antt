use Rattle.std.proofs.Common.{◌≡◌, ◌++◌, ℕ, map, take, drop, length}
use Rattle.ecam_spec.specs.History.{Moment}
use Rattle.ecam_spec.specs.Situation.{value_in}
use Rattle.book_model.specs.Sealed.{the_book}
use Rattle.advisories.specs.Watches.{all_watched, AreWithin, stepped}
use Rattle.advisories.specs.State.{HasEnded}
use Rattle.advisories.proofs.watches.step.Given as goal

abbrev pub invariant-loop-i : goal.invariant-loop-i
invariant-loop-i l = record {
  watched : all_watched l.watches ≡ all_watched l.fn.watches;
  within : AreWithin (length l.book.params.items) l.watches;
  stepped : (m : ℕ → Moment) (k : ℕ) → HasEnded (the_book l.book) m k l.lane
      → l.watches ≡ map (stepped (λ p. value_in (the_book l.book) m p k)) (take l.i l.fn.watches) ++ drop l.i l.fn.watches;
}
