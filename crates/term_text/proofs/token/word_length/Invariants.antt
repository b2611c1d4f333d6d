use Rattle.ecam_spec.specs.Bytes.{is_word_byte}
use Rattle.term_text.proofs.Runs.{Passes}
use Rattle.term_text.proofs.token.word_length.Given as goal

abbrev pub invariant-loop-i : goal.invariant-loop-i
invariant-loop-i l = Passes is_word_byte l.bytes l.i
