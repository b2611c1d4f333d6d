use Rattle.std.proofs.Common.{◌∙◌}
use Rattle.warning_display.proofs.Blocks.{put-if}
use Rattle.warning_display.proofs.procedure.put_line.Goals as goal

pub returns-clause-row : goal.returns-clause-row
returns-clause-row c =
    put-if c.args.stands c.args.line.now.colour c.as_bytes.result.now c.args.line.now.text.bytes c.args.count c.put_next.result _ _ c.if-not-stands.false
    (c.as_bytes.ensures.value ∙ c.as_str.ensures.value) c.put_next.ensures.put
