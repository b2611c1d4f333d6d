use Rattle.std.proofs.Common.{false, get_or, refl, arith}
use Rattle.replay_core.proofs.Blocks.{lines_step, names_length}
use Rattle.replay_core.proofs.block.put_changes_in.Goals as goal

pub loop-i-preserved : goal.loop-i-preserved
loop-i-preserved c = record {
  lines = lines_step c.args.changed.now c.args.rows.now c.loop-i.i (get_or c.args.changed.now c.loop-i.i false) c.index-rows-i.result c.name_of.result.now
      c.loop-i.out.items c.put_change.new.out.items _ (omega (arith, names_length)) (omega arith) (omega arith)
      refl c.index-rows-i.is c.name_of.ensures.name c.put_change.ensures.line c.loop-i.invariant.lines;
  short = omega (arith, c.put_change.ensures.short, c.loop-i.invariant.short);
}
