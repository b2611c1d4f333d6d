use Rattle.std.proofs.Common.{◌<◌, length, get_or, IfSome, sym, ap, subst, ◌∙◌, arith}
use Rattle.ecam_spec.specs.Book as plain
use Rattle.book_model.proofs.BookReads.{alert-read}
use Rattle.book_model.proofs.BookLimits.{alert-sizes}
use Rattle.fwc_lane.proofs.display.own_page.Goals as goal

pub returns-in-None-clause-page : goal.returns-in-None-clause-page
returns-in-None-clause-page c =
    let d = c.args.book.now in
    let xs = c.alerts.result.now in
    let lt : c.args.alert < length xs = omega (arith, c.requires, ap length c.alerts.ensures.value) in
    let x = get_or xs c.args.alert c.index-alerts-alert.result in
    let here = ap (get_or xs c.args.alert) c.index-alerts-alert.is in
    sym c.in-None.is ∙ sym (ap (λ (p : plain.Alert). p.page) (alert-read d xs c.args.alert x c.alerts.ensures.value lt here))

pub returns-in-Some-clause-page : goal.returns-in-Some-clause-page
returns-in-Some-clause-page c =
    let d = c.args.book.now in
    let xs = c.alerts.result.now in
    let lt : c.args.alert < length xs = omega (arith, c.requires, ap length c.alerts.ensures.value) in
    let x = get_or xs c.args.alert c.index-alerts-alert.result in
    let here = ap (get_or xs c.args.alert) c.index-alerts-alert.is in
    sym c.in-Some.is ∙ sym (ap (λ (p : plain.Alert). p.page) (alert-read d xs c.args.alert x c.alerts.ensures.value lt here))

pub returns-in-Some-clause-within : goal.returns-in-Some-clause-within
returns-in-Some-clause-within c =
    let d = c.args.book.now in
    let xs = c.alerts.result.now in
    let lt : c.args.alert < length xs = omega (arith, c.requires, ap length c.alerts.ensures.value) in
    let x = get_or xs c.args.alert c.index-alerts-alert.result in
    let here = ap (get_or xs c.args.alert) c.index-alerts-alert.is in
    subst (λ o. IfSome o (λ p. p < length d.pages.items)) c.in-Some.is (alert-sizes d c.alerts.ensures.sealed xs c.args.alert x c.alerts.ensures.value lt here).page
