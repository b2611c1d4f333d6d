use Rattle.std.proofs.Common.{◌≡◌, ◌+◌, ◌<◌, length, get_or, refl, ap, subst, ◌∙◌, arith}
use Rattle.book_model.specs.Sealed.{the_book}
use Rattle.book_model.specs.Conditions.{places}
use Rattle.book_model.proofs.BookLimits.{line-sound}
use Rattle.watch_lists.specs.Listed.{items_of, ListsBelow}
use Rattle.watch_lists.proofs.Naming.{few-operands, few-alerts, own-within}
use Rattle.watch_lists.proofs.Lines.{line-within, when-here, done-here, line-next, behind-own}
use Rattle.watch_lists.proofs.book.add_lines.Goals as goal

pub overflow_add-first : goal.overflow_add-first
overflow_add-first c =
    let d = c.args.book.now in
    let sealed = c.alerts.ensures.sealed in
    let xs = c.alerts.result.now in
    let lt : c.args.alert < length xs = omega (arith, c.requires.alert, ap length c.alerts.ensures.value) in
    let x = get_or xs c.args.alert c.index-alerts-alert.result in
    let here = ap (get_or xs c.args.alert) c.index-alerts-alert.is in
    let inside : c.loop-i.i < length x.lines.items = omega (arith, c.loop-i-test.true, c.len-i-end.ensures, x.lines.ok.0) in
    let few : c.line_at-first.result + c.loop-i.i < 32768 =
    line-within d sealed c.args.sizes c.requires.sizes xs c.args.alert x c.alerts.ensures.value lt here c.line_at-first.result c.loop-i.i c.line_at-first.ensures.value inside in
    omega (arith, few)

pub line_number-requires-clause-alerts : goal.line_number-requires-clause-alerts
line_number-requires-clause-alerts c =
    few-alerts c.args.book.now c.alerts.ensures.sealed c.args.sizes c.requires.sizes

pub line_number-requires-clause-line : goal.line_number-requires-clause-line
line_number-requires-clause-line c =
    let d = c.args.book.now in
    let sealed = c.alerts.ensures.sealed in
    let xs = c.alerts.result.now in
    let lt : c.args.alert < length xs = omega (arith, c.requires.alert, ap length c.alerts.ensures.value) in
    let x = get_or xs c.args.alert c.index-alerts-alert.result in
    let here = ap (get_or xs c.args.alert) c.index-alerts-alert.is in
    let inside : c.loop-i.i < length x.lines.items = omega (arith, c.loop-i-test.true, c.len-i-end.ensures, x.lines.ok.0) in
    let few : c.line_at-first.result + c.loop-i.i < 32768 =
    line-within d sealed c.args.sizes c.requires.sizes xs c.args.alert x c.alerts.ensures.value lt here c.line_at-first.result c.loop-i.i c.line_at-first.ensures.value inside in
    few

pub add_line-requires-clause-few : goal.add_line-requires-clause-few
add_line-requires-clause-few c =
    few-operands c.args.book.now c.alerts.ensures.sealed c.args.sizes c.requires.sizes

pub add_line-requires-clause-number : goal.add_line-requires-clause-number
add_line-requires-clause-number c =
    let d = c.args.book.now in
    let sealed = c.alerts.ensures.sealed in
    let xs = c.alerts.result.now in
    let lt : c.args.alert < length xs = omega (arith, c.requires.alert, ap length c.alerts.ensures.value) in
    let x = get_or xs c.args.alert c.index-alerts-alert.result in
    let here = ap (get_or xs c.args.alert) c.index-alerts-alert.is in
    let inside : c.loop-i.i < length x.lines.items = omega (arith, c.loop-i-test.true, c.len-i-end.ensures, x.lines.ok.0) in
    let few : c.line_at-first.result + c.loop-i.i < 32768 =
    line-within d sealed c.args.sizes c.requires.sizes xs c.args.alert x c.alerts.ensures.value lt here c.line_at-first.result c.loop-i.i c.line_at-first.ensures.value inside in
    omega (arith, few, c.line_number.ensures, few-alerts d sealed c.args.sizes c.requires.sizes)

pub add_line-requires-clause-when : goal.add_line-requires-clause-when
add_line-requires-clause-when c =
    let d = c.args.book.now in
    let sealed = c.alerts.ensures.sealed in
    let xs = c.alerts.result.now in
    let lt : c.args.alert < length xs = omega (arith, c.requires.alert, ap length c.alerts.ensures.value) in
    let x = get_or xs c.args.alert c.index-alerts-alert.result in
    let here = ap (get_or xs c.args.alert) c.index-alerts-alert.is in
    let inside : c.loop-i.i < length x.lines.items = omega (arith, c.loop-i-test.true, c.len-i-end.ensures, x.lines.ok.0) in
    own-within d sealed c.args.sizes c.requires.sizes _ (line-sound d sealed xs c.args.alert x c.alerts.ensures.value lt here x.lines.items c.loop-i.i c.index.result.now refl inside c.index.ensures).when.within

pub add_line-requires-clause-done : goal.add_line-requires-clause-done
add_line-requires-clause-done c =
    let d = c.args.book.now in
    let sealed = c.alerts.ensures.sealed in
    let xs = c.alerts.result.now in
    let lt : c.args.alert < length xs = omega (arith, c.requires.alert, ap length c.alerts.ensures.value) in
    let x = get_or xs c.args.alert c.index-alerts-alert.result in
    let here = ap (get_or xs c.args.alert) c.index-alerts-alert.is in
    let inside : c.loop-i.i < length x.lines.items = omega (arith, c.loop-i-test.true, c.len-i-end.ensures, x.lines.ok.0) in
    own-within d sealed c.args.sizes c.requires.sizes _ (line-sound d sealed xs c.args.alert x c.alerts.ensures.value lt here x.lines.items c.loop-i.i c.index.result.now refl inside c.index.ensures).done.within

pub loop-i-preserved : goal.loop-i-preserved
loop-i-preserved c =
    let d = c.args.book.now in
    let sealed = c.alerts.ensures.sealed in
    let xs = c.alerts.result.now in
    let lt : c.args.alert < length xs = omega (arith, c.requires.alert, ap length c.alerts.ensures.value) in
    let x = get_or xs c.args.alert c.index-alerts-alert.result in
    let here = ap (get_or xs c.args.alert) c.index-alerts-alert.is in
    let inside : c.loop-i.i < length x.lines.items = omega (arith, c.loop-i-test.true, c.len-i-end.ensures, x.lines.ok.0) in
    let n = c.args.sizes in
    let when = when-here d sealed n c.requires.sizes xs c.args.alert x c.alerts.ensures.value lt here c.loop-i.i c.index.result.now inside c.index.ensures c.line_at-first.result c.line_number.result c.line_at-first.ensures.value c.line_number.ensures in
    let done = done-here d sealed n c.requires.sizes xs c.args.alert x c.alerts.ensures.value lt here c.loop-i.i c.index.result.now inside c.index.ensures c.line_at-first.result c.line_number.result c.line_at-first.ensures.value c.line_number.ensures in
    record {
      long = c.in_ok-add_line.ensures.len ∙ c.loop-i.invariant.long;
      listed = line-next d sealed n c.requires.sizes xs c.args.alert x c.alerts.ensures.value lt here c.loop-i.i c.index.result.now inside c.index.ensures c.line_at-first.result c.line_number.result c.line_at-first.ensures.value c.line_number.ensures
          (items_of c.args.lists.now.items) (items_of c.loop-i.lists.items) (items_of c.add_line.new.lists.items) (c.in_ok-add_line.ensures.listed (places (the_book d)) when done) c.loop-i.invariant.listed;
    }

pub returns-clause-listed : goal.returns-clause-listed
returns-clause-listed c =
    let d = c.args.book.now in
    let sealed = c.alerts.ensures.sealed in
    let xs = c.alerts.result.now in
    let lt : c.args.alert < length xs = omega (arith, c.requires.alert, ap length c.alerts.ensures.value) in
    let x = get_or xs c.args.alert c.index-alerts-alert.result in
    let here = ap (get_or xs c.args.alert) c.index-alerts-alert.is in
    let all : c.loop-i.i ≡ length x.lines.items = omega (arith, c.loop-i-test.false, c.loop-i.auto.i-end, c.len-i-end.ensures, x.lines.ok.0) in
    λ below.
    subst (λ m. ListsBelow c.args.sizes (places (the_book d)) m (items_of c.loop-i.lists.items)) (behind-own d sealed c.args.sizes c.requires.sizes xs c.args.alert x c.alerts.ensures.value lt here c.loop-i.i all) (c.loop-i.invariant.listed below)
