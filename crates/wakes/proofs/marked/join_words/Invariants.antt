use Rattle.std.proofs.Common.{◌≡◌, ℕ, ◌<◌, ◌≤◌, length, slice_index, bit_or}
use Rattle.wakes.proofs.marked.join_words.Given as goal

abbrev pub invariant-loop-i : goal.invariant-loop-i
invariant-loop-i l = record {
  long : length l.words ≡ length l.others;
  joined : (p : ℕ) → p < l.i → slice_index l.words p ≡ bit_or (slice_index l.fn.words p) (slice_index l.others p);
  left : (p : ℕ) → l.i ≤ p → slice_index l.words p ≡ slice_index l.fn.words p;
}
