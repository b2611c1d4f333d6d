use Rattle.std.proofs.Common.{◌≡◌, length}
use Rattle.ecam_spec.specs.Book as plain
use Rattle.book_model.specs.Conditions.{places}
use Rattle.condition_codes.specs.IsCodes.{IsCodes}
use Rattle.fwc_lane.specs.TermsFit.{OwnsBelow}
use Rattle.fwc_lane.proofs.terms.own_slots.Given as goal

abbrev pub invariant-loop-number : goal.invariant-loop-number
invariant-loop-number l = record {
  owners : (b : plain.Book) → IsCodes b l.codes → l.count ≡ length (places b) → OwnsBelow b l.number l.cells.owners;
  many : length l.cells.owners ≡ length l.fn.cells.owners;
  slots : l.cells.slots ≡ l.fn.cells.slots;
  nodes : l.cells.nodes ≡ l.fn.cells.nodes;
  visits : l.cells.visits ≡ l.fn.cells.visits;
}
