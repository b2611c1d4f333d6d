use Rattle.std.proofs.Common.{ap, ◌∙◌, Some}
use Rattle.record_lines.proofs.Bits.{bits_of-Ok, bits_of-Err}
use Rattle.record_lines.proofs.line.bits_of.Goals as goal

pub returns-in-Ok : goal.returns-in-Ok
returns-in-Ok c = ap Some c.from_be_bytes.ensures ∙ bits_of-Ok c.args.word.now c.decode_to_slice.new.out c.decode_to_slice.result _ c.decode_to_slice.ensures.value c.in-Ok.is

pub returns-in-Err : goal.returns-in-Err
returns-in-Err c = bits_of-Err c.args.word.now c.decode_to_slice.new.out c.decode_to_slice.result _ c.decode_to_slice.ensures.value c.in-Err.is
