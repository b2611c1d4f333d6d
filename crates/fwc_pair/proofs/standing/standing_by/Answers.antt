use Rattle.std.proofs.Common.{true, false, not, ◌&&◌, Some, None, length, get_or, refl, sym, ap, ◌∙◌, subst, arith}
use Rattle.ecam_spec.specs.BookTerms.{lines_of}
use Rattle.ecam_spec.specs.LeftZone.{title_row}
use Rattle.book_model.specs.Told.{TellsOf, flagged}
use Rattle.book_model.specs.Sealed.{the_book}
use Rattle.book_model.proofs.BookLists.{many-alerts}
use Rattle.warning_display.specs.LeftRows.{in_order, blocks}
use Rattle.fwc_pair.specs.TitlePlaces.{in_zone}
use Rattle.fwc_pair.proofs.Stood.{standing-told, title-by}
use Rattle.fwc_pair.proofs.standing.standing_by.Goals as goal

pub bounds-present-alert : goal.bounds-present-alert
bounds-present-alert c = omega (arith, c.requires.fits.truths.present, ap length c.present.ensures.value, many-alerts c.args.book.now)

pub bounds-active-alert : goal.bounds-active-alert
bounds-active-alert c = omega (arith, c.requires.fits.truths.active, ap length c.active.ensures.value, many-alerts c.args.book.now)

pub bounds-shown-alert : goal.bounds-shown-alert
bounds-shown-alert c = omega (arith, c.requires.fits.marks.many.shown, ap length c.shown.ensures, many-alerts c.args.book.now)

pub title_row-requires-clause-shown : goal.title_row-requires-clause-shown
title_row-requires-clause-shown c = ap length c.shown-2.ensures ∙ c.requires.fits.marks.many.shown ∙ many-alerts c.args.book.now

pub returns-then-not-present-clause-told : goal.returns-then-not-present-clause-told
returns-then-not-present-clause-told c = λ f told.
    let b = the_book c.args.book.now in
    let l = c.args.lane.now in
    let a = c.args.alert in
    standing-told b l a f false _ _ _ _ _ told
    (sym c.if-not-present.true ∙ ap (λ xs. get_or xs a false) c.present.ensures.value)
    refl refl refl refl refl

pub returns-then-active-shown-clause-told : goal.returns-then-active-shown-clause-told
returns-then-active-shown-clause-told c = λ f told.
    let b = the_book c.args.book.now in
    let l = c.args.lane.now in
    let a = c.args.alert in
    standing-told b l a f true true _ _ _ _ told
    (sym c.if-not-present.false ∙ ap (λ xs. get_or xs a false) c.present.ensures.value)
    (sym c.if-active-shown.true
    ∙ ap (λ xs. not (get_or xs a false) && not (get_or c.shown.result.now a false)) c.active.ensures.value
    ∙ ap (λ xs. not (get_or l.truths.active.items a false) && not (get_or xs a false)) c.shown.ensures)
    refl refl refl refl

pub returns-in-Some-clause-told : goal.returns-in-Some-clause-told
returns-in-Some-clause-told c = λ f told.
    let b = the_book c.args.book.now in
    let l = c.args.lane.now in
    let a = c.args.alert in
    standing-told b l a f true false _ _ (Some c.in-Some.primary) _ told
    (sym c.if-not-present.false ∙ ap (λ xs. get_or xs a false) c.present.ensures.value)
    (sym c.if-active-shown.false
    ∙ ap (λ xs. not (get_or xs a false) && not (get_or c.shown.result.now a false)) c.active.ensures.value
    ∙ ap (λ xs. not (get_or l.truths.active.items a false) && not (get_or xs a false)) c.shown.ensures)
    (sym c.in-Some.is ∙ c.starred_by.ensures.value)
    refl refl refl

pub returns-then-cancelled-alert-clause-told : goal.returns-then-cancelled-alert-clause-told
returns-then-cancelled-alert-clause-told c = λ f told.
    let b = the_book c.args.book.now in
    let l = c.args.lane.now in
    let a = c.args.alert in
    standing-told b l a f true false true _ None _ told
    (sym c.if-not-present.false ∙ ap (λ xs. get_or xs a false) c.present.ensures.value)
    (sym c.if-active-shown.false
    ∙ ap (λ xs. not (get_or xs a false) && not (get_or c.shown.result.now a false)) c.active.ensures.value
    ∙ ap (λ xs. not (get_or l.truths.active.items a false) && not (get_or xs a false)) c.shown.ensures)
    (sym c.in_default.is ∙ c.starred_by.ensures.value)
    (sym c.if-cancelled-alert.true ∙ ap (λ xs. get_or xs a false) c.cancelled.ensures)
    refl refl

pub returns-then-cleared-alert-clause-told : goal.returns-then-cleared-alert-clause-told
returns-then-cleared-alert-clause-told c = λ f told.
    let b = the_book c.args.book.now in
    let l = c.args.lane.now in
    let a = c.args.alert in
    standing-told b l a f true false false true None _ told
    (sym c.if-not-present.false ∙ ap (λ xs. get_or xs a false) c.present.ensures.value)
    (sym c.if-active-shown.false
    ∙ ap (λ xs. not (get_or xs a false) && not (get_or c.shown.result.now a false)) c.active.ensures.value
    ∙ ap (λ xs. not (get_or l.truths.active.items a false) && not (get_or xs a false)) c.shown.ensures)
    (sym c.in_default.is ∙ c.starred_by.ensures.value)
    (sym c.if-cancelled-alert.false ∙ ap (λ xs. get_or xs a false) c.cancelled.ensures)
    (sym c.if-cleared-alert.true ∙ ap (λ xs. get_or xs a false) c.cleared.ensures)
    refl

pub returns-in-Some-title_row-clause-told : goal.returns-in-Some-title_row-clause-told
returns-in-Some-title_row-clause-told c = λ f told.
    let b = the_book c.args.book.now in
    let l = c.args.lane.now in
    let a = c.args.alert in
    let at =
    c.title_row.ensures told.stands (subst (λ fs. TellsOf fs (lines_of b.alerts) told.stands) (sym c.deref.ensures.value) told.told)
    ∙ ap (λ xs. in_zone (title_row a (blocks b told.stands (in_order b (flagged xs))))) c.shown-2.ensures in
    standing-told b l a f true false false false None (Some c.in-Some-title_row.row) told
    (sym c.if-not-present.false ∙ ap (λ xs. get_or xs a false) c.present.ensures.value)
    (sym c.if-active-shown.false
    ∙ ap (λ xs. not (get_or xs a false) && not (get_or c.shown.result.now a false)) c.active.ensures.value
    ∙ ap (λ xs. not (get_or l.truths.active.items a false) && not (get_or xs a false)) c.shown.ensures)
    (sym c.in_default.is ∙ c.starred_by.ensures.value)
    (sym c.if-cancelled-alert.false ∙ ap (λ xs. get_or xs a false) c.cancelled.ensures)
    (sym c.if-cleared-alert.false ∙ ap (λ xs. get_or xs a false) c.cleared.ensures)
    (title-by b l a f (Some c.in-Some-title_row.row) told (sym c.in-Some-title_row.is ∙ at))

pub returns-in-None-clause-told : goal.returns-in-None-clause-told
returns-in-None-clause-told c = λ f told.
    let b = the_book c.args.book.now in
    let l = c.args.lane.now in
    let a = c.args.alert in
    let at =
    c.title_row.ensures told.stands (subst (λ fs. TellsOf fs (lines_of b.alerts) told.stands) (sym c.deref.ensures.value) told.told)
    ∙ ap (λ xs. in_zone (title_row a (blocks b told.stands (in_order b (flagged xs))))) c.shown-2.ensures in
    standing-told b l a f true false false false None None told
    (sym c.if-not-present.false ∙ ap (λ xs. get_or xs a false) c.present.ensures.value)
    (sym c.if-active-shown.false
    ∙ ap (λ xs. not (get_or xs a false) && not (get_or c.shown.result.now a false)) c.active.ensures.value
    ∙ ap (λ xs. not (get_or l.truths.active.items a false) && not (get_or xs a false)) c.shown.ensures)
    (sym c.in_default.is ∙ c.starred_by.ensures.value)
    (sym c.if-cancelled-alert.false ∙ ap (λ xs. get_or xs a false) c.cancelled.ensures)
    (sym c.if-cleared-alert.false ∙ ap (λ xs. get_or xs a false) c.cleared.ensures)
    (title-by b l a f None told (sym c.in-None.is ∙ at))
