use Rattle.std.proofs.Common.{◌≡◌, ◌+◌, ◌-◌, ◌*◌, ◌/◌, ◌^◌, ◌≤◌, false, ℤ, List, Option}
use Rattle.book_model.specs.Sealed.{the_book}
use Rattle.fwc_lane.specs.declared.terms.Terms.{Terms}
use Rattle.fwc_lane.specs.ReadTo.{AreReadTo}
use Rattle.fwc_lane.proofs.values.read_word.Given as goal

abbrev pub invariant-loop-rest : goal.invariant-loop-rest
invariant-loop-rest l = record {
  low : 64 * l.place ≤ l.from;
  high : l.from ≤ 64 * l.place + 64;
  rest : l.rest ≡ l.initial.rest / 2 ^ (l.from - 64 * l.place);
  read : (was : List (Option ℤ)) (first : Terms) → AreReadTo (the_book l.book) l.params was first (64 * l.place) l.initial.values.items l.initial.terms
      → AreReadTo (the_book l.book) l.params was first l.from l.values.items l.terms;
  kept : l.any ≡ false → l.values.items ≡ l.initial.values.items;
}

abbrev pub decreases-loop-rest : goal.decreases-loop-rest
decreases-loop-rest l = 64 * l.place + 64 - l.from
