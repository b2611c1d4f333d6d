use Rattle.std.proofs.Common.{◌≡◌, ◌<◌, map, length, take, drop, sym, ap, ◌∙◌, subst, arith}
use Rattle.std.proofs.lemmas.List.{length-map}
use Rattle.ecam_spec.specs.BookTerms.{lines_of}
use Rattle.ecam_spec.specs.LeftZone.{alert_rows}
use Rattle.book_model.specs.View.{line_of}
use Rattle.book_model.specs.Told.{TellsOf}
use Rattle.book_model.specs.Sealed.{the_book, alert_in}
use Rattle.book_model.proofs.BookReads.{alert-read}
use Rattle.book_model.proofs.BookLines.{lines-fit, told-block, few-lines-in-all}
use Rattle.warning_display.proofs.Blocks.{part-long}
use Rattle.fwc_pair.proofs.Titles.{rows-counted}
use Rattle.fwc_pair.proofs.title.rows_of.Goals as goal

pub part-requires : goal.part-requires
part-requires c =
    let own = c.index-alerts-alert.result in
    let within : c.args.alert < length c.alerts.result.now = omega (arith, c.requires.alert, ap length c.alerts.ensures.value) in
    let fits = lines-fit c.args.book.now c.alerts.result.now c.args.alert own c.alerts.ensures.value within c.index-alerts-alert.is in
    omega (arith, fits, own.lines.ok.0, c.len.ensures, c.line_at.ensures.value, c.requires.lines)

pub returns-clause-count : goal.returns-clause-count
returns-clause-count c = λ stands tells.
    let d = c.args.book.now in
    let own = c.index-alerts-alert.result in
    let within : c.args.alert < length c.alerts.result.now = omega (arith, c.requires.alert, ap length c.alerts.ensures.value) in
    let read = alert-read d c.alerts.result.now c.args.alert own c.alerts.ensures.value within c.index-alerts-alert.is in
    let many : c.len.result ≡ length own.lines.items = omega (arith, c.len.ensures, own.lines.ok.0) in
    let flags : c.part.result.now ≡ take (length own.lines.items) (drop (length (lines_of (take c.args.alert (the_book d).alerts))) c.args.lines.now) =
    c.part.ensures
    ∙ ap (λ n. take n (drop c.line_at.result c.args.lines.now)) many
    ∙ ap (λ n. take (length own.lines.items) (drop n c.args.lines.now)) c.line_at.ensures.value in
    let block = told-block d c.alerts.result.now c.args.alert own c.alerts.ensures.value within c.index-alerts-alert.is c.args.lines.now stands tells in
    let told = subst (λ fs. TellsOf fs (map line_of own.lines.items) stands) (sym flags) block in
    let fits = lines-fit d c.alerts.result.now c.args.alert own c.alerts.ensures.value within c.index-alerts-alert.is in
    let long : length c.part.result.now ≡ length (map line_of own.lines.items) =
    part-long c.line_at.result c.len.result c.args.lines.now c.part.result.now
    (omega (arith, fits, own.lines.ok.0, c.len.ensures, c.line_at.ensures.value, c.requires.lines)) c.part.ensures
    ∙ many ∙ sym (length-map own.lines.items line_of) in
    rows-counted stands c.args.alert (alert_in d own) c.part.result.now c.count_set.result long told c.count_set.ensures.count
    ∙ ap (λ x. length (alert_rows stands c.args.alert x)) (sym read)

pub returns-clause-few : goal.returns-clause-few
returns-clause-few c =
    let own = c.index-alerts-alert.result in
    let within : c.args.alert < length c.alerts.result.now = omega (arith, c.requires.alert, ap length c.alerts.ensures.value) in
    let fits = lines-fit c.args.book.now c.alerts.result.now c.args.alert own c.alerts.ensures.value within c.index-alerts-alert.is in
    let long : length c.part.result.now ≡ c.len.result =
    part-long c.line_at.result c.len.result c.args.lines.now c.part.result.now
    (omega (arith, fits, own.lines.ok.0, c.len.ensures, c.line_at.ensures.value, c.requires.lines)) c.part.ensures in
    omega (arith, long, fits, own.lines.ok.0, c.len.ensures, c.count_set.ensures.few, few-lines-in-all c.args.book.now c.alerts.ensures.sealed)
