use Rattle.std.proofs.Common.{◌≡◌, ◌<◌, length, drop, sym, ap, ◌∙◌, arith}
use Rattle.std.specs.Prelude.{filter}
use Rattle.ecam_spec.specs.LeftZone.{overflow}
use Rattle.ecam_spec.specs.Screen.{order}
use Rattle.book_model.specs.Sealed.{the_book}
use Rattle.book_model.specs.Told.{flagged}
use Rattle.book_model.proofs.BookLimits.{sizes}
use Rattle.warning_display.specs.LeftRows.{blocks}
use Rattle.warning_display.proofs.Beyond.{rows-beyond, titles-beyond, none-beyond}
use Rattle.warning_display.proofs.left.put_alerts.Goals as goal

pub count_shown-beyond-requires-clause-few : goal.count_shown-beyond-requires-clause-few
count_shown-beyond-requires-clause-few c = omega (arith, c.order.ensures.count, (sizes c.args.book.now c.order.ensures.sealed).alerts)

pub returns-then-beyond-gt0-clause-rows : goal.returns-then-beyond-gt0-clause-rows
returns-then-beyond-gt0-clause-rows c = λ stands tells.
    let shown = flagged c.args.shown.now in
    let all = order (the_book c.args.book.now) in
    let next = c.put_first-count.result.1 in
    let some : 0 < length (filter shown (drop next all)) = omega (arith, c.if-beyond-gt0.true, rw c.order.ensures.value at c.count_shown-beyond.ensures) in
    rows-beyond (the_book c.args.book.now) stands shown all next c.put_first-count.result.0 c.put_first-count.ensures.all some _ _ (c.put_first-count.ensures.rows stands tells)

pub returns-then-beyond-gt0-clause-titles : goal.returns-then-beyond-gt0-clause-titles
returns-then-beyond-gt0-clause-titles c = λ stands tells.
    let shown = flagged c.args.shown.now in
    let all = order (the_book c.args.book.now) in
    let next = c.put_first-count.result.1 in
    let many : c.count_shown-beyond.result ≡ length (filter shown (drop next all)) = rw c.order.ensures.value at c.count_shown-beyond.ensures in
    let some : 0 < length (filter shown (drop next all)) = omega (arith, c.if-beyond-gt0.true, many) in
    many
    ∙ titles-beyond (the_book c.args.book.now) stands shown all next c.put_first-count.result.0 c.put_first-count.ensures.all some _ _ (c.put_first-count.ensures.rows stands tells)
    (c.put_first-count.ensures.titles stands tells)

pub returns-clause-rows : goal.returns-clause-rows
returns-clause-rows c = λ stands tells.
    let shown = flagged c.args.shown.now in
    let all = order (the_book c.args.book.now) in
    let next = c.put_first-count.result.1 in
    let none : length (filter shown (drop next all)) ≡ 0 = omega (arith, c.if-beyond-gt0.false, rw c.order.ensures.value at c.count_shown-beyond.ensures) in
    rw (none-beyond (the_book c.args.book.now) stands shown all next none) (c.put_first-count.ensures.rows stands tells)

pub returns-clause-titles : goal.returns-clause-titles
returns-clause-titles c = λ stands tells.
    let shown = flagged c.args.shown.now in
    let all = order (the_book c.args.book.now) in
    let next = c.put_first-count.result.1 in
    let none : length (filter shown (drop next all)) ≡ 0 = omega (arith, c.if-beyond-gt0.false, rw c.order.ensures.value at c.count_shown-beyond.ensures) in
    sym (ap (λ xs. overflow (blocks (the_book c.args.book.now) stands xs)) (none-beyond (the_book c.args.book.now) stands shown all next none) ∙ c.put_first-count.ensures.titles stands tells)
