use Rattle.std.proofs.Common.{arith}
use Rattle.book_model.proofs.BookLines.{few-lines-in-all}
use Rattle.watch_lists.proofs.Naming.{few-alerts}
use Rattle.watch_lists.proofs.Lines.{alerts-are}
use Rattle.watch_lists.proofs.book.first_memo.Goals as goal

pub overflow_mul-result : goal.overflow_mul-result
overflow_mul-result c = omega (arith, c.line_count.ensures.value, few-lines-in-all c.args.book.now c.line_count.ensures.sealed)

pub overflow_add-result-2 : goal.overflow_add-result-2
overflow_add-result-2 c =
    omega (arith, c.line_count.ensures.value, few-lines-in-all c.args.book.now c.line_count.ensures.sealed, few-alerts c.args.book.now c.line_count.ensures.sealed c.args.sizes c.requires)

pub returns-clause-value : goal.returns-clause-value
returns-clause-value c = omega (arith, c.line_count.ensures.value, alerts-are c.args.book.now c.args.sizes c.requires)

pub returns-clause-few : goal.returns-clause-few
returns-clause-few c =
    omega (arith, c.line_count.ensures.value, few-lines-in-all c.args.book.now c.line_count.ensures.sealed, few-alerts c.args.book.now c.line_count.ensures.sealed c.args.sizes c.requires)
