use Rattle.std.proofs.Common.{length, ap, arith}
use Rattle.book_model.proofs.BookLists.{many-alerts, many-memos}
use Rattle.book_model.proofs.BookLimits.{sizes}
use Rattle.book_model.proofs.BookLines.{few-lines-in-all}
use Rattle.book_model.proofs.ConditionPlaces.{all-places}
use Rattle.fwc_lane.proofs.terms.condition_count.Goals as goal

pub overflow_mul-result : goal.overflow_mul-result
overflow_mul-result c = omega (arith, c.line_count.ensures.value, few-lines-in-all c.args.book.now c.line_count.ensures.sealed)

pub overflow_add-result-2 : goal.overflow_add-result-2
overflow_add-result-2 c =
    let few = sizes c.args.book.now c.line_count.ensures.sealed in
    omega (arith, c.line_count.ensures.value, few-lines-in-all c.args.book.now c.line_count.ensures.sealed, ap length c.alerts.ensures.value, few.alerts)

pub overflow_add-result-3 : goal.overflow_add-result-3
overflow_add-result-3 c =
    let few = sizes c.args.book.now c.line_count.ensures.sealed in
    omega (
      arith,
      c.line_count.ensures.value,
      few-lines-in-all c.args.book.now c.line_count.ensures.sealed,
      ap length c.alerts.ensures.value,
      ap length c.memos.ensures.value,
      few.alerts,
      few.memos,
    )

pub returns-clause-count : goal.returns-clause-count
returns-clause-count c =
    omega (
      arith,
      c.line_count.ensures.value,
      ap length c.alerts.ensures.value,
      ap length c.memos.ensures.value,
      many-alerts c.args.book.now,
      many-memos c.args.book.now,
      all-places c.args.book.now c.line_count.ensures.sealed,
    )

pub returns-clause-few : goal.returns-clause-few
returns-clause-few c =
    let few = sizes c.args.book.now c.line_count.ensures.sealed in
    omega (
      arith,
      c.line_count.ensures.value,
      few-lines-in-all c.args.book.now c.line_count.ensures.sealed,
      ap length c.alerts.ensures.value,
      ap length c.memos.ensures.value,
      few.alerts,
      few.memos,
    )
