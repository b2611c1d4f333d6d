use Rattle.std.proofs.Common.{length, ◌∙◌, ap, arith}
use Rattle.std.specs.Fmt.{signed_decimal}
use Rattle.system_display.proofs.RowTexts.{short-number, passed}
use Rattle.system_display.proofs.row_text.write_known.Goals as goal

pub write_value-requires-in-Bnr : goal.write_value-requires-in-Bnr
write_value-requires-in-Bnr c = record {
  room = c.requires.room;
  short = omega (arith, short-number c.args.value c.requires.short, ap length (c.as_bytes.ensures.value ∙ c.format.ensures.text ∙ ap signed_decimal (passed c.args.value c.requires.short)));
}
