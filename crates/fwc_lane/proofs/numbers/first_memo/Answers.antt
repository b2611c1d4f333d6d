use Rattle.std.proofs.Common.{length, ap, arith}
use Rattle.book_model.proofs.BookLists.{many-alerts}
use Rattle.book_model.proofs.BookLimits.{sizes}
use Rattle.book_model.proofs.BookLines.{few-lines-in-all}
use Rattle.fwc_lane.proofs.numbers.first_memo.Goals as goal

pub overflow_mul-result : goal.overflow_mul-result
overflow_mul-result c = omega (arith, c.line_count.ensures.value, few-lines-in-all c.args.book.now c.line_count.ensures.sealed)

pub overflow_add-result-2 : goal.overflow_add-result-2
overflow_add-result-2 c =
    omega (arith, c.line_count.ensures.value, few-lines-in-all c.args.book.now c.line_count.ensures.sealed, ap length c.alerts.ensures.value, (sizes c.args.book.now c.line_count.ensures.sealed).alerts)

pub returns : goal.returns
returns c = omega (arith, c.line_count.ensures.value, ap length c.alerts.ensures.value, many-alerts c.args.book.now)
