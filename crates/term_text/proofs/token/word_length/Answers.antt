use Rattle.std.proofs.Common.{sym, ◌∙◌}
use Rattle.ecam_spec.specs.Bytes.{is_word_byte}
use Rattle.term_text.proofs.Runs.{run_stops, run_ends}
use Rattle.term_text.proofs.token.word_length.Goals as goal

pub returns-then-not-is_word_byte-clause-value : goal.returns-then-not-is_word_byte-clause-value
returns-then-not-is_word_byte-clause-value c = run_stops is_word_byte c.args.bytes.now c.loop-i.i c.loop-i.invariant c.loop-i-test.true (sym c.is_word_byte.ensures ∙ c.if-not-is_word_byte.true)

pub returns-clause-value : goal.returns-clause-value
returns-clause-value c = run_ends is_word_byte c.args.bytes.now c.loop-i.i c.loop-i.invariant c.loop-i.auto.i-end c.loop-i-test.false
