use Rattle.std.proofs.Common.{◌≡◌, ◌<◌, ℕ, true}
use Rattle.wakes.specs.Marks.{is_marked, room}
use Rattle.attention.proofs.walk.mark_all.Given as goal

abbrev pub invariant-loop-i : goal.invariant-loop-i
invariant-loop-i l = record {
  room : room l.looked ≡ room l.initial.looked;
  marks : (j : ℕ) → j < l.i → is_marked l.looked j ≡ true;
}
