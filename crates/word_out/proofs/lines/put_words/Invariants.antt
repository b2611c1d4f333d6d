use Rattle.std.proofs.Common.{◌≡◌, ℕ, ◌≤◌, ◌<◌, ◌*◌, length, get_or}
use Rattle.std.specs.Prelude.{flat_map}
use Rattle.ecam_spec.specs.Places.{below}
use Rattle.word_out.specs.Told.{pair_word, written_line}
use Rattle.word_out.proofs.lines.put_words.Given as goal

abbrev pub invariant-loop-number : goal.invariant-loop-number
invariant-loop-number l = record {
  lines : l.lines.items ≡ flat_map (λ n. written_line l.all (get_or l.fn.words n 0) (pair_word l.pair n)) (below l.number);
  short : length l.lines.items ≤ 14 * l.number;
  told : (n : ℕ) → n < l.number → get_or l.words n 0 ≡ pair_word l.pair n;
  left : (n : ℕ) → l.number ≤ n → get_or l.words n 0 ≡ get_or l.fn.words n 0;
  count : length l.words ≡ length l.fn.words;
}
