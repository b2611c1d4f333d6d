use Rattle.std.proofs.Common.{◌<◌, suc, false, length, get_or, Some, IfSome, sym, ap, subst, ◌∙◌, arith}
use Rattle.ecam_spec.specs.Past.{previous}
use Rattle.ecam_spec.specs.Situation.{condition_in, phase_in, active_in}
use Rattle.ecam_spec.specs.Screen.{panel, cancelled_in}
use Rattle.book_model.specs.Sealed.{the_book}
use Rattle.book_model.proofs.BookLists.{many-alerts, many-pages, many-parameters}
use Rattle.wakes.specs.Marks.{is_marked}
use Rattle.system_display.specs.Selecting.{IsChoiceOf}
use Rattle.fwc_lane.proofs.Showing.{active-is}
use Rattle.fwc_lane.proofs.CrewMoments.{cancelled-told, first-told}
use Rattle.fwc_lane.proofs.PageRest.{auto-stood, chosen-stood}
use Rattle.fwc_lane.proofs.PagesAlike.{display_with, displays-with}
use Rattle.fwc_lane.proofs.ZoneSteps.{drawn-alike, auto-drawn, page-drawn, status-page-drawn}
use Rattle.fwc_lane.proofs.display.fill_display.Goals as goal

pub called_page-page-requires-clause-alert : goal.called_page-page-requires-clause-alert
called_page-page-requires-clause-alert c =
    subst (λ n. IfSome c.first.result (λ a. a < n)) (many-alerts c.args.book.now) (c.first.ensures.within (the_book c.args.book.now) c.requires.fits.marks)

pub draw_page-requires-clause-values : goal.draw_page-requires-clause-values
draw_page-requires-clause-values c = c.requires.fits.values ∙ many-parameters c.args.book.now

pub draw_page-requires-clause-turned : goal.draw_page-requires-clause-turned
draw_page-requires-clause-turned c = omega (arith, c.requires.fits.turned, many-parameters c.args.book.now)

pub draw_page-requires-in-Page-clause-values : goal.draw_page-requires-in-Page-clause-values
draw_page-requires-in-Page-clause-values c = c.requires.fits.values ∙ many-parameters c.args.book.now

pub draw_page-requires-in-Page-clause-turned : goal.draw_page-requires-in-Page-clause-turned
draw_page-requires-in-Page-clause-turned c = omega (arith, c.requires.fits.turned, many-parameters c.args.book.now)

pub draw_page-requires-in-Page-clause-page : goal.draw_page-requires-in-Page-clause-page
draw_page-requires-in-Page-clause-page c =
    let within = subst (IsChoiceOf (length (the_book c.args.book.now).pages)) c.in-Page.is (c.choice.ensures.within (the_book c.args.book.now) c.requires.fits.selector) in
    omega (arith, within, many-pages c.args.book.now)

pub fill_status_among-requires-clause-active : goal.fill_status_among-requires-clause-active
fill_status_among-requires-clause-active c = ap length c.active.ensures.value ∙ c.requires.fits.truths.active ∙ many-alerts c.args.book.now

pub fill_status_among-requires-clause-cancelled : goal.fill_status_among-requires-clause-cancelled
fill_status_among-requires-clause-cancelled c = ap length c.cancelled.ensures ∙ c.requires.fits.marks.many.cancelled ∙ many-alerts c.args.book.now

pub fill_status_among-requires-clause-lines : goal.fill_status_among-requires-clause-lines
fill_status_among-requires-clause-lines c = c.requires.fits.status_lines

pub fill_status_among-requires-clause-near : goal.fill_status_among-requires-clause-near
fill_status_among-requires-clause-near c = λ a on.
    ap (λ xs. is_marked xs a) c.near.ensures ∙ c.requires.fits.truths.near.active a (sym (ap (λ xs. get_or xs a false) c.active.ensures.value) ∙ on)

pub returns-in-Auto-clause-rows : goal.returns-in-Auto-clause-rows
returns-in-Auto-clause-rows c = λ m k scene stays.
    let b = the_book c.args.book.now in
    let these = c.args.scene.now.values.now in
    let page = c.called_page-page.result in
    let is = sym c.in-Auto.is ∙ c.choice.ensures.choice (panel b m) (suc k) scene.selector in
    let first = c.first.ensures.value ∙ first-told b m k _ scene.marks in
    auto-drawn b m k _ _ c.first.result page is first
    (λ d pages phase own. c.called_page-page.ensures.page d pages (phase ∙ sym scene.phase) own)
    (drawn-alike b m k these page _ _
    (c.draw_page.ensures.rows (display_with b m k these) (displays-with b m k these scene.values)
    (λ on. auto-stood b m k these _ scene.turned _ (stays on) c.first.result page is first
    (λ d pages phase own. c.called_page-page.ensures.page d pages (phase ∙ sym scene.phase) own))))

pub returns-in-Page-clause-rows : goal.returns-in-Page-clause-rows
returns-in-Page-clause-rows c = λ m k scene stays.
    let b = the_book c.args.book.now in
    let these = c.args.scene.now.values.now in
    let is = sym c.in-Page.is ∙ c.choice.ensures.choice (panel b m) (suc k) scene.selector in
    page-drawn b m k _ _ c.in-Page.page is
    (drawn-alike b m k these (Some c.in-Page.page) _ _
    (c.draw_page-in-Page.ensures.rows (display_with b m k these) (displays-with b m k these scene.values)
    (λ on. chosen-stood b m k these _ scene.turned _ (stays on) c.in-Page.page is)))

pub returns-in-Status-clause-rows : goal.returns-in-Status-clause-rows
unfolding previous
returns-in-Status-clause-rows c = λ m k scene stays.
    let d = c.args.book.now in
    let b = the_book d in
    status-page-drawn b m k _ _ c.in-Status.page (sym c.in-Status.is ∙ c.choice.ensures.choice (panel b m) (suc k) scene.selector)
    (c.fill_status_among.ensures.rows (λ a. active_in b m a k) (λ a. cancelled_in b m a k)
    (λ a lt. c.active.ensures.tells b (condition_in b m) (phase_in b m) (suc k) scene.truths a (omega (arith, many-alerts d)) ∙ active-is b m a k)
    (λ a lt. ap (λ xs. get_or xs a false) c.cancelled.ensures ∙ cancelled-told b m k _ scene.marks a (omega (arith, many-alerts d))))
