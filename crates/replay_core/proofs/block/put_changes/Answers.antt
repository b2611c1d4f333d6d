use Rattle.std.proofs.Common.{◌++◌, sym, ap, ◌∙◌, arith, append-nil}
use Rattle.replay_core.proofs.Blocks.{lines_all, names_length}
use Rattle.replay_core.proofs.block.put_changes.Goals as goal

pub returns : goal.returns
returns c =
    sym (append-nil c.put_zone-5.new.out.items)
    ∙ ap (λ rest. c.put_zone-5.new.out.items ++ rest) (sym (lines_all c.args.changed.now c.args.rows.now 36 (omega (arith, names_length))))
    ∙ c.put_zone-5.ensures.lines
    ∙ c.put_zone-4.ensures.lines
    ∙ c.put_zone-3.ensures.lines
    ∙ c.put_zone-2.ensures.lines
    ∙ c.put_zone.ensures.lines
