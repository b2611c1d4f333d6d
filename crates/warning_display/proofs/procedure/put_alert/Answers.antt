use Rattle.std.proofs.Common.{◌∙◌}
use Rattle.warning_display.proofs.Blocks.{block-put}
use Rattle.warning_display.proofs.procedure.put_alert.Goals as goal

pub returns-clause-rows : goal.returns-clause-rows
returns-clause-rows c = λ test tells.
    block-put test c.args.stands.now c.args.alert.now.level c.args.alert.now.title.bytes c.as_bytes.result.now c.title_colour-colour.result c.as_slice.result.now
    c.args.alert.now.lines.items c.args.count c.put_next-titled.result c.put_lines.result _ _ _ c.title_colour-colour.ensures
    (c.as_bytes.ensures.value ∙ c.as_str.ensures.value) c.as_slice.ensures.value c.put_next-titled.ensures.put (c.put_lines.ensures.rows test) tells
