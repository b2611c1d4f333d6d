use Rattle.std.proofs.Common.{◌≡◌, ℕ, ◌==◌, ◌||◌, take}
use Rattle.std.specs.List.{list_any}
use Rattle.wakes.specs.Marks.{is_marked, room}
use Rattle.alert_truth.proofs.stars.mark_all.Given as goal

-- the numbers so far are in
abbrev pub invariant-loop-place : goal.invariant-loop-place
invariant-loop-place l = record {
  room : room l.marks ≡ room l.fn.marks;
  marks : (a : ℕ) → is_marked l.marks a ≡ (list_any (λ s. s == a) (take l.place-index l.places) || is_marked l.fn.marks a);
}
