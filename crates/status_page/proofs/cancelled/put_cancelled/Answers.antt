use Rattle.std.proofs.Common.{◌<◌, false, map, length, get_or, refl, ap, sym, subst, ◌∙◌, arith}
use Rattle.std.specs.Prelude.{filter}
use Rattle.std.proofs.lemmas.List.{take_all}
use Rattle.ecam_spec.specs.Book as plain
use Rattle.ecam_spec.specs.Situation.{alert_at}
use Rattle.ecam_spec.specs.StatusPage.{cancelled_rows}
use Rattle.zone_rows.specs.Tracked.{tracked}
use Rattle.book_model.specs.declared.draft.Alert as code
use Rattle.book_model.specs.Sealed.{the_book}
use Rattle.book_model.specs.Told.{flagged}
use Rattle.book_model.proofs.BookReads.{alert-read}
use Rattle.status_page.specs.Behind.{AppendsBehind}
use Rattle.status_page.proofs.Behind.{behind-none}
use Rattle.status_page.proofs.CancelledRows.{no-cancelled, cancelled-on, some-on}
use Rattle.status_page.proofs.cancelled.put_cancelled.Goals as goal

pub loop-i-init : goal.loop-i-init
loop-i-init c = record {
  whole = c.requires.whole;
  rows =
      subst (λ rows. AppendsBehind rows c.args.place c.args.place (tracked c.args.rows.now c.args.changed.now) (tracked c.args.rows.now c.args.changed.now))
      (sym no-cancelled) (behind-none c.args.place _);
  titled = refl;
}

pub loop-i-preserved : goal.loop-i-preserved
loop-i-preserved c =
    let d = c.args.book.now in
    let b = the_book d in
    let i = c.loop-i.i in
    let places = c.args.places.now in
    let alert = get_or places i 0 in
    let listed = get_or c.args.cancelled.now alert false in
    let own = c.index-alerts-alert.result in
    let here = c.requires.within i 0 c.loop-i-test.true in
    let within : alert < length c.alerts-alerts.result.now = omega (arith, here, ap length c.alerts-alerts.ensures.value) in
    let read = alert-read d c.alerts-alerts.result.now alert own c.alerts-alerts.ensures.value within c.index-alerts-alert.is in
    record {
      whole = c.put_title-place.ensures.whole;
      rows =
          cancelled-on b places i c.loop-i-test.true (flagged c.args.cancelled.now) listed c.loop-i.titled (get_or c.alerts-alerts.result.now alert own).title.bytes refl c.loop-i.invariant.titled
          (ap (λ (a : plain.Alert). a.title) read ∙ ap (λ (a : code.Alert). a.title.bytes) c.index-alerts-alert.is) c.args.place c.loop-i.place c.put_title-place.result _ _ _
          c.loop-i.invariant.rows c.put_title-place.ensures.rows;
      titled = some-on b places i c.loop-i-test.true (flagged c.args.cancelled.now) listed c.loop-i.titled c.is_either-titled.result refl c.loop-i.invariant.titled c.is_either-titled.ensures;
    }

pub returns-clause-rows : goal.returns-clause-rows
returns-clause-rows c =
    subst (λ xs. AppendsBehind (cancelled_rows (map (alert_at (the_book c.args.book.now)) (filter (flagged c.args.cancelled.now) xs))) c.args.place c.loop-i.place
    (tracked c.args.rows.now c.args.changed.now) (tracked c.loop-i.rows c.loop-i.changed)) (take_all c.loop-i.i c.args.places.now c.loop-i-test.false) c.loop-i.invariant.rows
