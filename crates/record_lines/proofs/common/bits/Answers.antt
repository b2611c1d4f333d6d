use Rattle.std.proofs.Common.{◌+◌, ◌*◌, ◌^◌, Some, None, cond, sym, ap, ◌∙◌, arith}
use Rattle.std.proofs.lemmas.Bool.{lt-ltb, le-ltb}
use Rattle.record_lines.proofs.CommonLines.{bits-worth}
use Rattle.record_lines.proofs.common.bits.Goals as goal

pub returns-then-bits-lt-NO_DIGIT : goal.returns-then-bits-lt-NO_DIGIT
returns-then-bits-lt-NO_DIGIT c =
    let n = 65536 * c.four.result + c.four-2.result in
    sym (ap (λ b. cond b (Some n) None) (lt-ltb n (2 ^ 32) c.if-bits-lt-NO_DIGIT.true))
    ∙ bits-worth c.args.a c.args.b c.args.c c.args.d c.args.e c.args.f c.args.g c.args.h n (omega (arith, c.four.ensures.value, c.four-2.ensures.value))

pub returns-else-bits-lt-NO_DIGIT : goal.returns-else-bits-lt-NO_DIGIT
returns-else-bits-lt-NO_DIGIT c =
    let n = 65536 * c.four.result + c.four-2.result in
    sym (ap (λ b. cond b (Some n) None) (le-ltb n (2 ^ 32) (let over = c.if-bits-lt-NO_DIGIT.false in omega arith)))
    ∙ bits-worth c.args.a c.args.b c.args.c c.args.d c.args.e c.args.f c.args.g c.args.h n (omega (arith, c.four.ensures.value, c.four-2.ensures.value))
