use Rattle.std.proofs.Common.{◌≡◌, ◌+◌, ◌-◌, ◌∙◌, take, drop, ap, arith}
use Rattle.warning_display.proofs.Passing.{block-clear}
use Rattle.warning_display.proofs.search.skip_clear.Goals as goal

pub loop-next-preserved : goal.loop-next-preserved
loop-next-preserved c =
    let i = c.loop-next.next in
    let wide : (i + 16) - i ≡ 16 = omega arith in
    record {
      from = omega arith;
      end = omega arith;
      none =
          block-clear c.args.flags.now _ i 16 (ap (λ n. take n (drop i c.args.flags.now)) wide) (c.is_clear.ensures c.if-is_clear.true)
          ∙ c.loop-next.invariant.none;
    }
