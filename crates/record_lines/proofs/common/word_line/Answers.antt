use Rattle.std.proofs.Common.{sym, ◌∙◌, arith}
use Rattle.record_lines.proofs.CommonLines.{word_line}
use Rattle.record_lines.proofs.common.word_line.Goals as goal

pub returns-in_ok-bits-in-87 : goal.returns-in_ok-bits-in-87
returns-in_ok-bits-in-87 c =
    word_line c.args.bytes.now c.in_ok-bus-in-87.bus c.in_ok-bits-in-87.bits (omega arith) (omega arith) (omega arith) (omega arith) (omega arith)
    (sym c.digit_value.ensures ∙ c.in_ok-bus-in-87.was) (sym c.bits.ensures ∙ c.in_ok-bits-in-87.was)
