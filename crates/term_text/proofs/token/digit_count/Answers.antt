use Rattle.std.proofs.Common.{sym, ◌∙◌}
use Rattle.ecam_spec.specs.Bytes.{is_digit}
use Rattle.term_text.proofs.Runs.{run_stops, run_ends}
use Rattle.term_text.proofs.token.digit_count.Goals as goal

pub returns-then-not-is_digit-clause-value : goal.returns-then-not-is_digit-clause-value
returns-then-not-is_digit-clause-value c = run_stops is_digit c.args.bytes.now c.loop-i.i c.loop-i.invariant c.loop-i-test.true (sym c.is_digit.ensures ∙ c.if-not-is_digit.true)

pub returns-clause-value : goal.returns-clause-value
returns-clause-value c = run_ends is_digit c.args.bytes.now c.loop-i.i c.loop-i.invariant c.loop-i.auto.i-end c.loop-i-test.false
