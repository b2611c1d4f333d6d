use Rattle.std.specs.Prelude.{nat_lt}
use Rattle.std.proofs.Common.{suc, false, length, get_or, sym, ap, ◌∙◌, arith}
use Rattle.ecam_spec.specs.Past.{previous}
use Rattle.ecam_spec.specs.Situation.{condition_in, phase_in, active_in}
use Rattle.ecam_spec.specs.Screen.{cancelled_in}
use Rattle.book_model.specs.Sealed.{the_book}
use Rattle.book_model.proofs.BookLists.{many-alerts}
use Rattle.wakes.specs.Marks.{is_marked}
use Rattle.fwc_lane.proofs.Showing.{active-is}
use Rattle.fwc_lane.proofs.CrewMoments.{cancelled-told}
use Rattle.fwc_lane.proofs.ZoneSteps.{status-stays, status-drawn}
use Rattle.fwc_lane.proofs.zones.has_status.Goals as goal

pub returns-then-not-status_turned : goal.returns-then-not-status_turned
returns-then-not-status_turned c = λ m k scene turned was.
    let b = the_book c.args.book.now in
    status-stays b m k c.args.turned c.changed.result turned (c.changed.ensures.tells b (condition_in b m) (phase_in b m) k scene.truths)
    (sym c.status_turned.ensures ∙ c.if-not-status_turned.true) c.args.was was

pub has_status_rows_among-requires-clause-active : goal.has_status_rows_among-requires-clause-active
has_status_rows_among-requires-clause-active c = ap length c.active.ensures.value ∙ c.requires.truths.active ∙ many-alerts c.args.book.now

pub has_status_rows_among-requires-clause-cancelled : goal.has_status_rows_among-requires-clause-cancelled
has_status_rows_among-requires-clause-cancelled c = ap length c.cancelled.ensures ∙ c.requires.marks.many.cancelled ∙ many-alerts c.args.book.now

pub has_status_rows_among-requires-clause-near : goal.has_status_rows_among-requires-clause-near
has_status_rows_among-requires-clause-near c = λ a on.
    ap (λ xs. is_marked xs a) c.near.ensures ∙ c.requires.truths.near.active a (sym (ap (λ xs. get_or xs a false) c.active.ensures.value) ∙ on)

pub has_status_rows_among-requires-clause-lines : goal.has_status_rows_among-requires-clause-lines
has_status_rows_among-requires-clause-lines c = c.requires.status_lines

pub returns : goal.returns
unfolding previous
returns c = λ m k scene turned was.
    let d = c.args.book.now in
    let b = the_book d in
    c.has_status_rows_among.ensures (λ a. active_in b m a k) (λ a. cancelled_in b m a k)
    (λ a lt. c.active.ensures.tells b (condition_in b m) (phase_in b m) (suc k) scene.truths a (omega (arith, many-alerts d)) ∙ active-is b m a k)
    (λ a lt. ap (λ xs. get_or xs a false) c.cancelled.ensures ∙ cancelled-told b m k _ scene.marks a (omega (arith, many-alerts d)))
    ∙ ap (λ rows. nat_lt 0 (length rows)) (status-drawn b m k)
