use Rattle.std.proofs.Common.{◌≡◌, ◌+◌, ◌<◌, length, ap, subst, arith}
use Rattle.std.proofs.lemmas.List.{length-map}
use Rattle.std.specs.Vec.{vec_len}
use Rattle.ecam_spec.specs.Book as plain
use Rattle.ecam_spec.specs.Situation.{alert_at}
use Rattle.book_model.specs.declared.draft.Alert.{Alert}
use Rattle.book_model.specs.View.{line_of}
use Rattle.book_model.specs.Sealed.{the_book}
use Rattle.book_model.proofs.BookLists.{many-alerts}
use Rattle.book_model.proofs.BookLimits.{sizes}
use Rattle.book_model.proofs.BookReads.{alert-read}
use Rattle.fwc_lane.proofs.LineAlerts.{AreFirst, first-all, first-more}
use Rattle.fwc_lane.proofs.line_alerts.alerts_of_lines.Goals as goal

pub overflow_cast-alert : goal.overflow_cast-alert
overflow_cast-alert c =
    let alerts = c.alerts-alerts.ensures in
    omega (arith, c.loop-alert-test.true, ap length alerts.value, (sizes c.args.book.now alerts.sealed).alerts)

pub loop-alert-preserved : goal.loop-alert-preserved
loop-alert-preserved c =
    let d = c.args.book.now in
    let b = the_book d in
    let alerts = c.alerts-alerts in
    let n = c.loop-alert.alert in
    let each = c.loop-alert.each in
    let own = c.index-alerts-alert.result in
    let many = c.len-in-loop-alert.result in
    let read = alert-read d alerts.result.now n own alerts.ensures.value c.loop-alert-test.true c.index-alerts-alert.is in
    let long : many ≡ length (alert_at b n).lines
    = omega (
      arith,
      c.len-in-loop-alert.ensures,
      ap (λ (a : Alert). vec_len a.lines) c.index-alerts-alert.is,
      own.lines.ok.0,
      length-map own.lines.items line_of,
      ap (λ (a : plain.Alert). length a.lines) read,
    ) in
    let within : n < length b.alerts = omega (arith, c.loop-alert-test.true, ap length alerts.ensures.value, many-alerts d) in
    first-more b n many each.items within long c.loop-alert.invariant (c.len.result + many) _ c.resize.new.self.items
    (omega (arith, c.len.ensures, each.ok.0)) each.ok.0 c.in_ok-resize.ensures.items

pub returns : goal.returns
returns c =
    let d = c.args.book.now in
    let b = the_book d in
    let all : c.loop-alert.alert ≡ length b.alerts
    = omega (arith, c.loop-alert-test.false, ap length c.alerts-alerts.ensures.value, many-alerts d) in
    first-all b c.loop-alert.each.items (subst (λ n. AreFirst b n c.loop-alert.each.items) all c.loop-alert.invariant)
