use Rattle.std.proofs.Common.{◌<◌, length, refl, sym, ◌∙◌, ap, arith}
use Rattle.ecam_spec.specs.Levels.{is_caution_level}
use Rattle.book_model.specs.declared.draft.Alert.{Alert}
use Rattle.book_model.proofs.BookLists.{many-alerts}
use Rattle.crew_marks.proofs.BookAlerts.{caution-read, same-target}
use Rattle.crew_marks.proofs.walk.look.Goals as goal

pub bounds-alerts-alert : goal.bounds-alerts-alert
bounds-alerts-alert c = omega (arith, c.requires.place, many-alerts c.args.book.now, ap length c.alerts.ensures.value)

pub bounds-alerts-alert-2 : goal.bounds-alerts-alert-2
bounds-alerts-alert-2 c = omega (arith, c.requires.place, many-alerts c.args.book.now, ap length c.alerts.ensures.value)

pub returns : goal.returns
returns c =
    let place : c.args.place < length c.alerts.result.now = omega (arith, c.requires.place, many-alerts c.args.book.now, ap length c.alerts.ensures.value) in
    let caution = c.is_caution.ensures ∙ ap (λ (x : Alert). is_caution_level x.level) (sym c.index-alerts-alert.is) ∙ sym (caution-read c.args.book.now c.alerts.result.now c.args.place c.index-alerts-alert.result c.alerts.ensures.value place c.index-alerts-alert.is) in
    let target = c.eq.ensures ∙ same-target c.args.place c.args.target in
    rw (caution, target) refl
