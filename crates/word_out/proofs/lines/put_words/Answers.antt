use Rattle.std.proofs.Common.{◌∙◌, ap, refl, arith, length, get_or}
use Rattle.std.proofs.lemmas.List.{length-set}
use Rattle.ecam_spec.specs.Places.{below}
use Rattle.word_out.specs.Told.{pair_word, written_line}
use Rattle.word_out.proofs.Loops.{next_line, told_next, left_next}
use Rattle.word_out.proofs.lines.put_words.Goals as goal

pub loop-number-init : goal.loop-number-init
unfolding below
loop-number-init c = record {
  lines = c.requires.empty;
  short = omega (arith, ap length c.requires.empty);
  told = λ n within. absurd (omega arith);
  left = λ n behind. refl;
  count = refl;
}

pub loop-number-preserved : goal.loop-number-preserved
loop-number-preserved c = record {
  lines = next_line (λ n. written_line c.args.all (get_or c.args.words.now n 0) (pair_word c.args.pair.now n)) c.loop-number.number _ _ _
      c.put_written.ensures.line c.loop-number.invariant.lines
      (ap (λ w. written_line c.args.all w c.word-new.result) (c.loop-number.invariant.left c.loop-number.number (omega arith))
      ∙ ap (λ w. written_line c.args.all (get_or c.args.words.now c.loop-number.number 0) w) c.word-new.ensures);
  short = omega (arith, c.put_written.ensures.count, c.loop-number.invariant.short);
  told = told_next c.loop-number.words (pair_word c.args.pair.now) c.loop-number.number c.word-new.result (omega (arith, c.loop-number-test.true, c.loop-number.invariant.count)) c.word-new.ensures c.loop-number.invariant.told;
  left = left_next c.loop-number.words c.args.words.now c.loop-number.number c.word-new.result c.loop-number.invariant.left;
  count = length-set c.loop-number.words c.loop-number.number c.word-new.result ∙ c.loop-number.invariant.count;
}
