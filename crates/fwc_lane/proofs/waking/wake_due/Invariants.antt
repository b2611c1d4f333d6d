use Rattle.std.proofs.Common.{◌≡◌, ◌≤◌, ◌-◌, ◌^◌, ℕ, true, false, cond, leb, length, slice_index}
use Rattle.std.specs.List.{sum_by}
use Rattle.ecam_spec.specs.Book as plain
use Rattle.book_model.specs.Conditions.{places}
use Rattle.wakes.specs.Marks.{is_marked, room}
use Rattle.condition_codes.specs.IsCodes.{IsCodes}
use Rattle.fwc_lane.specs.Visits.{IsCounted}
use Rattle.fwc_lane.proofs.waking.wake_due.Given as goal

abbrev pub invariant-loop-next : goal.invariant-loop-next
invariant-loop-next l = record {
  stirred_room : room l.stirred ≡ room l.fn.stirred;
  room : room l.woken ≡ room l.fn.woken;
  same : (j : ℕ) → is_marked l.stirred j ≡ is_marked l.woken j;
  len : length l.dues ≡ length l.fn.dues;
  due : (j : ℕ) → is_marked l.woken j ≡ true → slice_index l.fn.dues j ≤ l.now;
  kept : (j : ℕ) → is_marked l.woken j ≡ false → slice_index l.dues j ≡ slice_index l.fn.dues j;
  slots : l.cells.slots ≡ l.fn.cells.slots;
  nodes : l.cells.nodes ≡ l.fn.cells.nodes;
  owners : l.cells.owners ≡ l.fn.cells.owners;
  most : l.fn.cells.visits ≤ 2 ^ 64 - 1 → l.cells.visits ≤ 2 ^ 64 - 1;
  counts : (b : plain.Book) (visited : ℕ) → IsCodes b l.codes → length l.fn.dues ≡ length (places b) → IsCounted (places b) visited l.fn.woken l.fn.cells.visits
      → IsCounted (places b) visited l.woken l.cells.visits;
}

abbrev pub decreases-loop-next : goal.decreases-loop-next
decreases-loop-next l = sum_by (λ key. cond (leb key l.now) 1 0) l.dues
