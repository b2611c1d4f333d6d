use Rattle.std.proofs.Common.{◌<◌, map, length, get_or, ap, sym, subst, ◌∙◌, arith}
use Rattle.std.proofs.lemmas.List.{take_all}
use Rattle.ecam_spec.specs.Book as plain
use Rattle.ecam_spec.specs.Situation.{alert_at}
use Rattle.ecam_spec.specs.StatusPage.{section_rows}
use Rattle.zone_rows.specs.Tracked.{tracked}
use Rattle.book_model.specs.declared.draft.Alert as code
use Rattle.book_model.specs.View.{status_of}
use Rattle.book_model.specs.Sealed.{the_book}
use Rattle.book_model.proofs.BookReads.{alert-read}
use Rattle.status_page.specs.Behind.{AppendsBehind}
use Rattle.status_page.proofs.Behind.{behind-none}
use Rattle.status_page.proofs.SectionRows.{section-none, section-on}
use Rattle.status_page.proofs.sections.put_section.Goals as goal

pub loop-i-init : goal.loop-i-init
loop-i-init c = record {
  whole = c.requires.whole;
  rows =
      subst (λ rows. AppendsBehind rows c.args.place c.args.place (tracked c.args.rows.now c.args.changed.now) (tracked c.args.rows.now c.args.changed.now))
      (sym (section-none (c.args.section, c.args.colour))) (behind-none c.args.place _);
}

pub loop-i-preserved : goal.loop-i-preserved
loop-i-preserved c =
    let d = c.args.book.now in
    let alert = get_or c.args.places.now c.loop-i.i 0 in
    let own = c.index-alerts-alert.result in
    let here = c.requires.within c.loop-i.i 0 c.loop-i-test.true in
    let within : alert < length c.alerts-alerts.result.now = omega (arith, here, ap length c.alerts-alerts.ensures.value) in
    let read = alert-read d c.alerts-alerts.result.now alert own c.alerts-alerts.ensures.value within c.index-alerts-alert.is in
    record {
      whole = c.put_lines-place.ensures.whole;
      rows =
          section-on (the_book d) c.args.places.now c.loop-i.i c.loop-i-test.true (c.args.section, c.args.colour) (map status_of c.as_slice-lines.result.now)
          (ap (λ (a : plain.Alert). a.status) read ∙ ap (λ (a : code.Alert). map status_of a.status.items) c.index-alerts-alert.is ∙ ap (map status_of) (sym c.as_slice-lines.ensures.value))
          c.args.place c.loop-i.place c.put_lines-place.result _ _ _ c.loop-i.invariant.rows c.put_lines-place.ensures.rows;
    }

pub returns-clause-rows : goal.returns-clause-rows
returns-clause-rows c =
    subst (λ xs. AppendsBehind (section_rows (map (alert_at (the_book c.args.book.now)) xs) (c.args.section, c.args.colour)) c.args.place c.loop-i.place
    (tracked c.args.rows.now c.args.changed.now) (tracked c.loop-i.rows c.loop-i.changed)) (take_all c.loop-i.i c.args.places.now c.loop-i-test.false) c.loop-i.invariant.rows
