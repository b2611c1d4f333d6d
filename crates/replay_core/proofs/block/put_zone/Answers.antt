use Rattle.std.proofs.Common.{◌≡◌, ◌+◌, ◌-◌, ◌++◌, sym, subst, ap, arith}
use Rattle.replay_core.specs.Flagged.{lines_from}
use Rattle.replay_core.proofs.Blocks.{lines_none}
use Rattle.replay_core.proofs.block.put_zone.Goals as goal

pub returns-else-has_any_in-clause-lines : goal.returns-else-has_any_in-clause-lines
returns-else-has_any_in-clause-lines c =
    let changed = c.args.changed.now in
    let rows = c.args.rows.now in
    let end : c.args.from + (c.args.to - c.args.from) ≡ c.args.to = omega (arith, c.requires.order) in
    ap (λ lines. c.args.out.now.items ++ lines)
    (subst (λ to. lines_from to changed rows ≡ lines_from c.args.from changed rows) end
    (lines_none changed rows c.args.from (c.args.to - c.args.from) c.requires.changed c.requires.rows (omega (arith, end, c.requires.within))
    (λ i ge lt. c.has_any_in.ensures c.if-has_any_in.false i ge (omega (arith, lt, end)))))
