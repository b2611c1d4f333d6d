use Rattle.std.proofs.Common.{length, ap, arith}
use Rattle.book_model.proofs.BookLists.{many-alerts}
use Rattle.book_model.proofs.BookLimits.{sizes}
use Rattle.book_model.proofs.BookLines.{few-lines-in-all}
use Rattle.fwc_lane.proofs.next.next_memo.Goals as goal

pub overflow_add-first : goal.overflow_add-first
overflow_add-first c =
    let d = c.args.book.now in
    let sealed = c.memos-count.ensures.sealed in
    omega (arith, c.requires, c.first_memo-first.ensures, (sizes d sealed).memos, (sizes d sealed).alerts, many-alerts d, few-lines-in-all d sealed)

pub overflow_add-first-2 : goal.overflow_add-first-2
overflow_add-first-2 c =
    let d = c.args.book.now in
    let sealed = c.memos-count.ensures.sealed in
    omega (arith, ap length c.memos-count.ensures.value, c.first_memo-first.ensures, (sizes d sealed).memos, (sizes d sealed).alerts, many-alerts d, few-lines-in-all d sealed)
