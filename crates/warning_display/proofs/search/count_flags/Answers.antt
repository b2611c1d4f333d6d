use Rattle.std.proofs.Common.{length, drop, take, ap, arith}
use Rattle.std.specs.Prelude.{filter}
use Rattle.std.proofs.lemmas.List.{take_all, length-append}
use Rattle.book_model.specs.Told.{flagged}
use Rattle.warning_display.proofs.Passing.{filter-parts}
use Rattle.warning_display.proofs.search.count_flags.Goals as goal

pub returns : goal.returns
returns c =
    let shown = flagged c.args.shown.now in
    let order = c.args.order.now in
    let before = filter shown (take c.args.from order) in
    let all = ap (λ xs. length (filter shown xs)) (take_all c.loop-i.i order c.loop-i-test.false) in
    let parts = ap length (filter-parts shown c.args.from order) in
    let sum = length-append before (filter shown (drop c.args.from order)) in
    omega (arith, all, parts, sum, c.loop-i.invariant.counted)
