use Rattle.std.proofs.Common.{◌≡◌, ℕ, ◌<◌, length, slice_index}
use Rattle.param_table.proofs.held.look_soon.Given as goal

abbrev pub invariant-loop-mailbox : goal.invariant-loop-mailbox
invariant-loop-mailbox l = record {
  long : length l.dues ≡ l.count;
  soon : (q : ℕ) → q < l.mailbox → slice_index l.dues q ≡ 0;
}
