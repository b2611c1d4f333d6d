use Rattle.std.proofs.Common.{◌≡◌, ◌+◌, map, length, cond, sym, ap, ◌∙◌, arith}
use Rattle.std.specs.Prelude.{filter}
use Rattle.std.proofs.lemmas.Bool.{lt-ltb, le-ltb}
use Rattle.ecam_spec.specs.Places.{below}
use Rattle.ecam_spec.specs.Situation.{alert_at}
use Rattle.book_model.specs.Sealed.{the_book}
use Rattle.book_model.specs.Told.{flagged}
use Rattle.book_model.proofs.BookLists.{many-alerts}
use Rattle.book_model.proofs.BookLimits.{sizes}
use Rattle.status_page.proofs.SectionRows.{section_count, count-none}
use Rattle.status_page.proofs.ActiveBelow.{active-more}
use Rattle.status_page.proofs.Counting.{one-few, as_one, lines-few, lines-read, sectioned, lines-on, titles-on, total-told}
use Rattle.status_page.proofs.count.count_rows.Goals as goal

pub loop-next-init : goal.loop-next-init
unfolding below
loop-next-init c =
    let b = the_book c.args.book.now in
    record {
      most = c.next_known-next.ensures.end;
      active = c.next_known-next.ensures.active;
      few_lines = omega arith;
      few_titles = omega arith;
      lines = sym (ap (λ xs. section_count (map (alert_at b) xs)) c.next_known-next.ensures.none ∙ count-none);
      titles = sym (ap (λ xs. length (filter (flagged c.args.cancelled.now) xs)) c.next_known-next.ensures.none);
    }

pub overflow_cast-lines : goal.overflow_cast-lines
overflow_cast-lines c =
    let alerts = c.alerts-alerts in
    omega (arith, (lines-few c.args.book.now alerts.ensures.sealed alerts.result.now c.loop-next.next c.index-alerts-next.result alerts.ensures.value c.loop-next-test.true c.index-alerts-next.is c.len.result c.len.ensures).1)

pub overflow_add-lines : goal.overflow_add-lines
overflow_add-lines c =
    let alerts = c.alerts-alerts in
    let few = lines-few c.args.book.now alerts.ensures.sealed alerts.result.now c.loop-next.next c.index-alerts-next.result alerts.ensures.value c.loop-next-test.true c.index-alerts-next.is c.len.result c.len.ensures in
    omega (arith, few.1, c.loop-next.invariant.few_lines, c.loop-next-test.true, ap length alerts.ensures.value, (sizes c.args.book.now alerts.ensures.sealed).alerts)

pub overflow_add-titles : goal.overflow_add-titles
overflow_add-titles c =
    let one = one-few (flagged c.args.cancelled.now c.loop-next.next) in
    omega (arith, c.from-titles.ensures, one, c.loop-next.invariant.few_titles, c.loop-next-test.true, ap length c.alerts-alerts.ensures.value, (sizes c.args.book.now c.alerts-alerts.ensures.sealed).alerts)

pub loop-next-preserved : goal.loop-next-preserved
loop-next-preserved c =
    let d = c.args.book.now in
    let b = the_book d in
    let next = c.loop-next.next in
    let active = flagged c.args.active.now in
    let before = filter active (below next) in
    let own = c.index-alerts-next.result in
    let sealed = c.alerts-alerts.ensures.sealed in
    let alerts = c.alerts-alerts.result.now in
    let same = c.alerts-alerts.ensures.value in
    let is = c.index-alerts-next.is in
    let few = lines-few d sealed alerts next own same c.loop-next-test.true is c.len.result c.len.ensures in
    let long = c.len.ensures ∙ lines-read d alerts next own same c.loop-next-test.true is in
    let each = sectioned d alerts next own same c.loop-next-test.true is sealed in
    let one = as_one (flagged c.args.cancelled.now next) in
    let is_active = c.loop-next.invariant.active (omega (arith, c.loop-next-test.true, ap length same, c.requires.active)) in
    let more = sym (c.next_known-next-in-loop-next.ensures.none ∙ active-more active next is_active) in
    record {
      most = c.next_known-next-in-loop-next.ensures.end;
      active = c.next_known-next-in-loop-next.ensures.active;
      few_lines = omega (arith, c.loop-next.invariant.few_lines, few.1, c.next_known-next-in-loop-next.ensures.from);
      few_titles = omega (arith, c.loop-next.invariant.few_titles, c.from-titles.ensures, one-few (flagged c.args.cancelled.now next), c.next_known-next-in-loop-next.ensures.from);
      lines = lines-on b before next c.loop-next.lines c.len.result c.loop-next.invariant.lines long each ∙ ap (λ xs. section_count (map (alert_at b) xs)) more;
      titles =
          ap (λ n. c.loop-next.titles + n) (c.from-titles.ensures ∙ one)
          ∙ titles-on b before next (flagged c.args.cancelled.now) c.loop-next.titles c.loop-next.invariant.titles
          ∙ ap (λ xs. length (filter (flagged c.args.cancelled.now) xs)) more;
    }

pub overflow_add-result : goal.overflow_add-result
overflow_add-result c =
    omega (arith, c.loop-next.invariant.few_lines, c.loop-next.invariant.few_titles, c.loop-next.invariant.most, c.requires.active, (sizes c.args.book.now c.alerts-alerts.ensures.sealed).alerts)

pub overflow_add-result-then-titles-gt0 : goal.overflow_add-result-then-titles-gt0
overflow_add-result-then-titles-gt0 c =
    omega (arith, c.loop-next.invariant.few_lines, c.loop-next.invariant.few_titles, c.loop-next.invariant.most, c.requires.active, (sizes c.args.book.now c.alerts-alerts.ensures.sealed).alerts)

pub returns-then-titles-gt0-clause-few : goal.returns-then-titles-gt0-clause-few
returns-then-titles-gt0-clause-few c =
    omega (arith, c.loop-next.invariant.few_lines, c.loop-next.invariant.few_titles, c.loop-next.invariant.most, c.requires.active, (sizes c.args.book.now c.alerts-alerts.ensures.sealed).alerts)

pub returns-else-titles-gt0-clause-few : goal.returns-else-titles-gt0-clause-few
returns-else-titles-gt0-clause-few c =
    omega (arith, c.loop-next.invariant.few_lines, c.loop-next.invariant.most, c.requires.active, (sizes c.args.book.now c.alerts-alerts.ensures.sealed).alerts)

pub returns-then-titles-gt0-clause-rows : goal.returns-then-titles-gt0-clause-rows
returns-then-titles-gt0-clause-rows c = λ active cancelled tells told.
    let b = the_book c.args.book.now in
    let all : c.loop-next.next ≡ length b.alerts = omega (arith, c.loop-next-test.false, c.loop-next.invariant.most, ap length c.alerts-alerts.ensures.value, c.requires.active, many-alerts c.args.book.now) in
    let some = lt-ltb 0 c.loop-next.titles c.if-titles-gt0.true in
    let total = total-told b c.args.active.now c.args.cancelled.now active cancelled c.loop-next.next c.loop-next.lines c.loop-next.titles all _ (many-alerts c.args.book.now) tells told c.loop-next.invariant.lines c.loop-next.invariant.titles in
    omega (arith, total, ap (λ t. cond t (c.loop-next.titles + 1) 0) some)

pub returns-else-titles-gt0-clause-rows : goal.returns-else-titles-gt0-clause-rows
returns-else-titles-gt0-clause-rows c = λ active cancelled tells told.
    let b = the_book c.args.book.now in
    let all : c.loop-next.next ≡ length b.alerts = omega (arith, c.loop-next-test.false, c.loop-next.invariant.most, ap length c.alerts-alerts.ensures.value, c.requires.active, many-alerts c.args.book.now) in
    let none = le-ltb 0 c.loop-next.titles (omega (arith, c.if-titles-gt0.false)) in
    let total = total-told b c.args.active.now c.args.cancelled.now active cancelled c.loop-next.next c.loop-next.lines c.loop-next.titles all _ (many-alerts c.args.book.now) tells told c.loop-next.invariant.lines c.loop-next.invariant.titles in
    omega (arith, total, ap (λ t. cond t (c.loop-next.titles + 1) 0) none)
