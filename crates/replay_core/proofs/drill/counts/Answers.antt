use Rattle.std.proofs.Common.{◌++◌, codes, decimal, ap, ◌∙◌}
use Rattle.replay_core.proofs.Drilled.{counted}
use Rattle.replay_core.proofs.drill.counts.Goals as goal

pub returns : goal.returns
returns c = λ w is.
    counted c.args.tally.now w c.args.moments c.put_count.new.line.items c.put_count-2.new.line.items c.put_count-3.new.line.items c.put_count-4.new.line.items c.put.new.out.items is
    (c.put_count.ensures.text ∙ ap (λ line. line ++ codes "moments " ++ decimal c.args.moments) c.new-line.ensures)
    c.put_count-2.ensures.text c.put_count-3.ensures.text c.put_count-4.ensures.text c.put.ensures
