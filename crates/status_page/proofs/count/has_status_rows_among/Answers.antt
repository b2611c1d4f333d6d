use Rattle.std.proofs.Common.{◌≡◌, ◌+◌, not, length, ltb, true, false, ap, sym, ◌∙◌, arith}
use Rattle.std.specs.Prelude.{filter}
use Rattle.std.proofs.lemmas.Bool.{eqb-true, not-false, or_parts, lt-ltb}
use Rattle.ecam_spec.specs.Places.{below}
use Rattle.book_model.specs.Sealed.{the_book}
use Rattle.book_model.specs.Told.{flagged}
use Rattle.book_model.proofs.BookLists.{many-alerts}
use Rattle.book_model.proofs.LevelPlaces.{filter_below-none}
use Rattle.status_page.proofs.ActiveBelow.{active-more}
use Rattle.status_page.proofs.Counting.{row_count, lines-read, sectioned, rows-none, rows-on, some-own, none-on, rows-least, any-told}
use Rattle.status_page.proofs.count.has_status_rows_among.Goals as goal

pub returns-then-is_surely_bare : goal.returns-then-is_surely_bare
returns-then-is_surely_bare c = λ active cancelled tells told.
    sym (ap (ltb 0) (c.is_surely_bare.ensures c.if-is_surely_bare.true active cancelled tells told))

pub loop-next-init : goal.loop-next-init
loop-next-init c =
    let rows = row_count (the_book c.args.book.now) (flagged c.args.cancelled.now) in
    record {
      most = c.next_among-next.ensures.end;
      active = c.next_among-next.ensures.active;
      none =
          ap rows (c.next_among-next.ensures.none ∙ filter_below-none (flagged c.args.active.now))
          ∙ rows-none (the_book c.args.book.now) (flagged c.args.cancelled.now);
    }

pub returns-then-has_rows : goal.returns-then-has_rows
returns-then-has_rows c = λ active cancelled tells told.
    let b = the_book c.args.book.now in
    let next = c.loop-next.next in
    let on = flagged c.args.active.now in
    let cancels = flagged c.args.cancelled.now in
    let alerts = c.alerts-alerts.result.now in
    let same = c.alerts-alerts.ensures.value in
    let own = c.index-alerts-next.result in
    let lines = lines-read c.args.book.now alerts next own same c.loop-next-test.true c.index-alerts-next.is in
    let each = sectioned c.args.book.now alerts next own same c.loop-next-test.true c.index-alerts-next.is c.alerts-alerts.ensures.sealed in
    let some = some-own c.is_empty.result (cancels next) _ c.is_empty.ensures c.if-has_rows.true in
    let here = c.loop-next.invariant.active (omega (arith, c.loop-next-test.true, ap length same, c.requires.active)) in
    let more = ap (row_count b cancels) (active-more on next here) ∙ rows-on b cancels (filter on (below next)) next each in
    let all = rows-least b cancels on (next + 1) (length b.alerts) (omega (arith, c.loop-next-test.true, ap length same, many-alerts c.args.book.now)) in
    sym (any-told b c.args.active.now c.args.cancelled.now active cancelled _ (many-alerts c.args.book.now) tells told ∙ lt-ltb 0 _ (omega (arith, some, lines, more, all)))

pub loop-next-preserved : goal.loop-next-preserved
loop-next-preserved c =
    let b = the_book c.args.book.now in
    let next = c.loop-next.next in
    let on = flagged c.args.active.now in
    let cancels = flagged c.args.cancelled.now in
    let same = c.alerts-alerts.ensures.value in
    let lines = lines-read c.args.book.now c.alerts-alerts.result.now next c.index-alerts-next.result same c.loop-next-test.true c.index-alerts-next.is in
    let neither = or_parts (not c.is_empty.result) (cancels next) c.if-has_rows.false in
    let empty = sym lines ∙ eqb-true _ 0 (sym c.is_empty.ensures ∙ not-false c.is_empty.result neither.0) in
    let here = c.loop-next.invariant.active (omega (arith, c.loop-next-test.true, ap length same, c.requires.active)) in
    record {
      most = c.next_among-next-in-loop-next.ensures.end;
      active = c.next_among-next-in-loop-next.ensures.active;
      none =
          ap (row_count b cancels) (c.next_among-next-in-loop-next.ensures.none ∙ active-more on next here)
          ∙ none-on b cancels (filter on (below next)) next true empty neither.1 c.loop-next.invariant.none;
    }

pub returns : goal.returns
returns c = λ active cancelled tells told.
    let b = the_book c.args.book.now in
    let rows = row_count b (flagged c.args.cancelled.now) in
    let all : length b.alerts ≡ c.loop-next.next = omega (arith, c.loop-next-test.false, c.loop-next.invariant.most, ap length c.alerts-alerts.ensures.value, c.requires.active, many-alerts c.args.book.now) in
    let none = ap (λ n. rows (filter (flagged c.args.active.now) (below n))) all ∙ c.loop-next.invariant.none in
    sym (any-told b c.args.active.now c.args.cancelled.now active cancelled _ (many-alerts c.args.book.now) tells told ∙ ap (ltb 0) none)
