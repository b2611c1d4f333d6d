use Rattle.std.proofs.Common.{◌≡◌, ℕ, ◌<◌, ◌≤◌, ◌⊎◌, true, cond, leb, length, slice_index}
use Rattle.std.specs.List.{sum_by}
use Rattle.wakes.specs.Due.{never}
use Rattle.wakes.specs.Marks.{is_marked, room}
use Rattle.alert_truth.proofs.truths.take_due.Given as goal

-- each is as it was, or its moment had come and it was taken
abbrev pub invariant-loop-alert : goal.invariant-loop-alert
invariant-loop-alert l = record {
  len : length l.dues ≡ length l.fn.dues;
  room : room l.due ≡ room l.fn.due;
  each : (a : ℕ) → a < length l.fn.dues
      → ((slice_index l.dues a ≡ slice_index l.fn.dues a) × (is_marked l.due a ≡ is_marked l.fn.due a))
      ⊎ ((slice_index l.fn.dues a ≤ l.now) × (slice_index l.dues a ≡ never) × (is_marked l.due a ≡ true));
}

abbrev pub decreases-loop-alert : goal.decreases-loop-alert
decreases-loop-alert l = sum_by (λ key. cond (leb key l.now) 1 0) l.dues
