use Rattle.std.proofs.Common.{◌*◌, ◌/◌, ◌%◌, ◌^◌, bit_or, ap, sym, subst}
use Rattle.param_table.specs.HeldState.{AreSummed}
use Rattle.param_table.proofs.Summed.{put-summed}
use Rattle.param_table.proofs.held.mark_summed.Goals as goal

pub returns-clause-summed : goal.returns-clause-summed
returns-clause-summed c = λ was.
    subst (λ n. AreSummed c.mark_in.new.words (bit_or c.args.busy.now (n * 2 ^ (c.args.param / 64 % 64) % 2 ^ 64))) (sym c.from.ensures)
    (put-summed c.args.changed.now c.mark_in.new.words c.args.busy.now c.args.param c.args.on c.mark_in.ensures.marks was)
