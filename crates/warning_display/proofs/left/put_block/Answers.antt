use Rattle.std.proofs.Common.{◌≡◌, ◌<◌, map, length, take, drop, sym, ap, ◌∙◌, subst, arith}
use Rattle.ecam_spec.specs.BookTerms.{lines_of}
use Rattle.ecam_spec.specs.LeftZone.{alert_rows}
use Rattle.book_model.specs.View.{line_of}
use Rattle.book_model.specs.Told.{TellsOf}
use Rattle.book_model.specs.Sealed.{the_book, alert_in}
use Rattle.book_model.proofs.BookReads.{alert-read}
use Rattle.book_model.proofs.BookLines.{lines-fit, told-block}
use Rattle.warning_display.specs.LeftRows.{rows_in}
use Rattle.warning_display.proofs.Blocks.{block-rows, part-long}
use Rattle.warning_display.proofs.left.put_block.Goals as goal

pub part-stands-requires : goal.part-stands-requires
part-stands-requires c =
    let own = c.index-alerts-alert.result in
    let within : c.args.alert < length c.alerts.result.now = omega (arith, c.requires.alert, ap length c.alerts.ensures.value) in
    let fits = lines-fit c.args.book.now c.alerts.result.now c.args.alert own c.alerts.ensures.value within c.index-alerts-alert.is in
    omega (arith, fits, own.lines.ok.0, c.len.ensures, c.line_at.ensures.value, c.requires.lines)

pub put_alert-requires-clause-told : goal.put_alert-requires-clause-told
put_alert-requires-clause-told c =
    let own = c.index-alerts-alert.result in
    let within : c.args.alert < length c.alerts.result.now = omega (arith, c.requires.alert, ap length c.alerts.ensures.value) in
    let fits = lines-fit c.args.book.now c.alerts.result.now c.args.alert own c.alerts.ensures.value within c.index-alerts-alert.is in
    part-long c.line_at.result c.len.result c.args.lines.now c.part-stands.result.now
    (omega (arith, fits, own.lines.ok.0, c.len.ensures, c.line_at.ensures.value, c.requires.lines)) c.part-stands.ensures
    ∙ omega (arith, c.len.ensures, own.lines.ok.0)

pub returns-clause-rows : goal.returns-clause-rows
returns-clause-rows c = λ stands tells.
    let d = c.args.book.now in
    let own = c.index-alerts-alert.result in
    let within : c.args.alert < length c.alerts.result.now = omega (arith, c.requires.alert, ap length c.alerts.ensures.value) in
    let read = alert-read d c.alerts.result.now c.args.alert own c.alerts.ensures.value within c.index-alerts-alert.is in
    let many : c.len.result ≡ length own.lines.items = omega (arith, c.len.ensures, own.lines.ok.0) in
    let flags : c.part-stands.result.now ≡ take (length own.lines.items) (drop (length (lines_of (take c.args.alert (the_book d).alerts))) c.args.lines.now) =
    c.part-stands.ensures
    ∙ ap (λ n. take n (drop c.line_at.result c.args.lines.now)) many
    ∙ ap (λ n. take (length own.lines.items) (drop n c.args.lines.now)) c.line_at.ensures.value in
    let block = told-block d c.alerts.result.now c.args.alert own c.alerts.ensures.value within c.index-alerts-alert.is c.args.lines.now stands tells in
    let told = subst (λ fs. TellsOf fs (map line_of own.lines.items) stands) (sym flags) block in
    rw (ap (λ a. rows_in (alert_rows stands c.args.alert a)) read ∙ block-rows stands c.args.alert (alert_in d own)) (c.put_alert.ensures.rows stands told)
