use Rattle.ecam_spec.specs.Bytes.{is_digit}
use Rattle.term_text.proofs.Runs.{Passes}
use Rattle.term_text.proofs.token.digit_count.Given as goal

abbrev pub invariant-loop-i : goal.invariant-loop-i
invariant-loop-i l = Passes is_digit l.bytes l.i
