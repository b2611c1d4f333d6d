use Rattle.std.proofs.Common.{◌≡◌, ◌++◌, length, arith, sym, ap, ◌∙◌, append-nil}
use Rattle.std.proofs.lemmas.List.{get_or_past}
use Rattle.ecam_spec.specs.Situation.{alert_at, no_alert}
use Rattle.book_model.specs.Sealed.{the_book}
use Rattle.book_model.proofs.BookLists.{many-alerts}
use Rattle.book_model.proofs.BookReads.{alert-read}
use Rattle.flight_report.proofs.lines.put_name.Goals as goal

pub returns-then-place-alerts-clause-name : goal.returns-then-place-alerts-clause-name
returns-then-place-alerts-clause-name c =
    let read = alert-read c.args.book.now c.alerts-alerts.result.now c.args.alert c.index-alerts-place.result c.alerts-alerts.ensures.value (omega arith) c.index-alerts-place.is in
    let name : (alert_at (the_book c.args.book.now) c.args.alert).name ≡ c.index-alerts-place.result.name.bytes = ap (λ a. a.name) read in
    let text = c.deref.ensures in
    let bytes = c.as_bytes.ensures.value in
    let put = c.put.ensures in
    cc

pub returns-else-place-alerts-clause-name : goal.returns-else-place-alerts-clause-name
returns-else-place-alerts-clause-name c =
    let d = c.args.book.now in
    let past = get_or_past (the_book d).alerts c.args.alert no_alert (omega (arith, many-alerts d, ap length c.alerts-alerts.ensures.value)) in
    sym (append-nil c.args.line.now.items) ∙ ap (λ t. c.args.line.now.items ++ t) (sym (ap (λ a. a.name) past))
