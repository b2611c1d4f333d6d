use Rattle.std.proofs.Common.{◌≡◌, ◌*◌, ◌-◌, false}
use Rattle.book_model.specs.Sealed.{the_book}
use Rattle.fwc_lane.specs.ReadTo.{AreReadTo}
use Rattle.fwc_lane.proofs.values.read_values.Given as goal

abbrev pub invariant-loop-place : goal.invariant-loop-place
invariant-loop-place l = record {
  read : AreReadTo (the_book l.book) l.params l.initial.values.items l.initial.terms (64 * l.place) l.values.items l.terms;
  kept : l.any ≡ false → l.values.items ≡ l.initial.values.items;
}

abbrev pub decreases-loop-place : goal.decreases-loop-place
decreases-loop-place l = l.words - l.place
