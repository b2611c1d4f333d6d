use Rattle.std.proofs.Common.{◌+◌, ◌∙◌, arith}
use Rattle.book_model.specs.Told.{flagged}
use Rattle.status_page.proofs.ActiveBelow.{active-same, none-near}
use Rattle.status_page.proofs.near.next_among.Goals as goal

pub loop-next-init : goal.loop-next-init
loop-next-init c =
    let found = c.next_or-next.ensures in
    record {
      from = found.from;
      most = found.end;
      none = none-near c.args.active.now c.args.near.now c.requires.near c.args.from c.next_or-next.result found.from found.none;
    }

pub loop-next-preserved : goal.loop-next-preserved
loop-next-preserved c =
    let found = c.next_or-next-in-loop-next.ensures in
    record {
      from = omega (arith, c.loop-next.invariant.from, found.from);
      most = found.end;
      none =
          none-near c.args.active.now c.args.near.now c.requires.near (c.loop-next.next + 1) c.next_or-next-in-loop-next.result found.from found.none
          ∙ active-same (flagged c.args.active.now) c.loop-next.next c.if-active-next.false
          ∙ c.loop-next.invariant.none;
    }
