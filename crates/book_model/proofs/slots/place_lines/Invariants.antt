use Rattle.std.proofs.Common.{◌≡◌, map}
use Rattle.book_model.specs.View.{line_of}
use Rattle.book_model.specs.Slots.{line_trees, line_places}
use Rattle.book_model.proofs.Placing.{Placing}
use Rattle.book_model.proofs.slots.place_lines.Given as goal

abbrev pub invariant-loop-line : goal.invariant-loop-line
invariant-loop-line l = record {
  same : map line_of l.line-items ≡ map line_of l.fn.lines.items;
  placing : Placing line_trees line_places l.fn.lines.items l.line-items l.line-index l.at l.next;
}
