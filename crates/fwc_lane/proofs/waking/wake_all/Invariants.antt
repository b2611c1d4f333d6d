use Rattle.std.proofs.Common.{◌≡◌, ◌<◌, ◌≤◌, ◌-◌, ◌^◌, ℕ, true, length}
use Rattle.ecam_spec.specs.Book as plain
use Rattle.book_model.specs.Conditions.{places}
use Rattle.wakes.specs.Marks.{is_marked, room}
use Rattle.condition_codes.specs.IsCodes.{IsCodes}
use Rattle.fwc_lane.specs.Visits.{IsCounted}
use Rattle.fwc_lane.proofs.waking.wake_all.Given as goal

abbrev pub invariant-loop-term : goal.invariant-loop-term
invariant-loop-term l = record {
  stirred_room : room l.stirred ≡ room l.fn.stirred;
  room : room l.woken ≡ room l.fn.woken;
  same : (j : ℕ) → is_marked l.stirred j ≡ is_marked l.woken j;
  marks : (j : ℕ) → j < l.term → is_marked l.woken j ≡ true;
  slots : l.cells.slots ≡ l.fn.cells.slots;
  nodes : l.cells.nodes ≡ l.fn.cells.nodes;
  owners : l.cells.owners ≡ l.fn.cells.owners;
  most : l.fn.cells.visits ≤ 2 ^ 64 - 1 → l.cells.visits ≤ 2 ^ 64 - 1;
  counts : (b : plain.Book) (visited : ℕ) → IsCodes b l.codes → l.count ≡ length (places b) → IsCounted (places b) visited l.fn.woken l.fn.cells.visits
      → IsCounted (places b) visited l.woken l.cells.visits;
}
