use Rattle.std.proofs.Common.{◌++◌, take, ap, ◌∙◌}
use Rattle.std.proofs.lemmas.List.{take-replicate}
use Rattle.system_display.proofs.row_text.put_blanks.Goals as goal

pub returns : goal.returns
returns c =
    c.put.ensures ∙ ap (λ bs. c.args.out.now.items ++ bs) (ap (take c.args.count) c.as_slice-blanks.ensures ∙ take-replicate c.args.count 32 32 c.requires.few)
