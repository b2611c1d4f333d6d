use Rattle.std.proofs.Common.{arith, sym, length, ap, ◌∙◌}
use Rattle.replay_core.proofs.Numbers.{number-empty, number-long, number-letter, number-small, number-large, some-byte}
use Rattle.replay_core.proofs.words.parse_number.Goals as goal
use Rattle.replay_core.proofs.words.parse_number.Goals.{then-is_empty-via-then-is_empty, then-is_empty-via-else-is_empty+then-digits-longest}

pub returns-then-is_empty-clause-number : goal.returns-then-is_empty-clause-number
returns-then-is_empty-clause-number c =
    elim c.then-is_empty.branch [
      | then-is_empty-via-then-is_empty w ↦
          sym (number-empty c.args.longest c.args.most c.args.word.now c.as_bytes-digits.result.now c.as_bytes-digits.ensures.value (sym c.is_empty.ensures ∙ w.if-is_empty.true))
      | then-is_empty-via-else-is_empty+then-digits-longest w ↦
          sym (number-long c.args.longest c.args.most c.args.word.now
          (omega (arith, some-byte c.as_bytes-digits.result.now (sym c.is_empty.ensures ∙ w.if-is_empty.false), ap length c.as_bytes-digits.ensures.value))
          (omega (arith, w.if-digits-longest.true, ap length c.as_bytes-digits.ensures.value)))
    ]

pub returns-then-not-is_ascii_digit-clause-number : goal.returns-then-not-is_ascii_digit-clause-number
returns-then-not-is_ascii_digit-clause-number c =
    sym (number-letter c.args.longest c.args.most c.args.word.now c.as_bytes-digits.result.now c.as_bytes-digits.ensures.value c.loop-digit.digit-index
    (omega arith) (omega arith) (sym c.is_ascii_digit.ensures.value ∙ c.if-not-is_ascii_digit.true))

pub returns-then-number-from-clause-number : goal.returns-then-number-from-clause-number
returns-then-number-from-clause-number c =
    sym (number-large c.args.longest c.args.most c.args.word.now c.as_bytes-digits.result.now c.as_bytes-digits.ensures.value c.loop-digit.digit-index c.loop-digit.number
    (some-byte c.as_bytes-digits.result.now (sym c.is_empty.ensures ∙ c.if-is_empty.false)) (omega arith) (omega arith)
    c.loop-digit.invariant.digits c.loop-digit.invariant.value (omega (arith, c.from-2.ensures)))

pub returns-clause-number : goal.returns-clause-number
returns-clause-number c =
    sym (number-small c.args.longest c.args.most c.args.word.now c.as_bytes-digits.result.now c.as_bytes-digits.ensures.value c.loop-digit.digit-index c.loop-digit.number
    (some-byte c.as_bytes-digits.result.now (sym c.is_empty.ensures ∙ c.if-is_empty.false)) (omega arith) (omega arith)
    c.loop-digit.invariant.digits c.loop-digit.invariant.value (omega (arith, c.from-2.ensures)))
