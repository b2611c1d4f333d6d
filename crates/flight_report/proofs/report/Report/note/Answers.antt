use Rattle.std.proofs.Common.{◌≡◌, ◌++◌, suc, take, sym, ◌∙◌, ap, subst}
use Rattle.ecam_spec.specs.Screen.{order}
use Rattle.view_spec.specs.declared.flight_report.TheConstants.{ENTRIES}
use Rattle.view_spec.specs.FlightReport.{last_flight, entries_of}
use Rattle.book_model.specs.Sealed.{the_book}
use Rattle.flight_report.specs.Kept.{come_up, IsLast}
use Rattle.flight_report.proofs.Watching.{onsets-are}
use Rattle.flight_report.proofs.Flights.{kept-added}
use Rattle.flight_report.proofs.report.Report.note.Goals as goal

pub returns-in-Some-clause-flight : goal.returns-in-Some-clause-flight
returns-in-Some-clause-flight c = λ course n tick comes last.
    let b = the_book c.args.book.now in
    let noted = c.note.ensures in
    let asked : come_up c.order.result.now c.up.result.now c.args.up.now ≡ course.onsets n =
    ap (λ os. come_up os c.up.result.now c.args.up.now) c.order.ensures.value
    ∙ ap (λ was. come_up (order b) was c.args.up.now) c.up.ensures
    ∙ onsets-are b course n c.args.phase.number c.args.up.now c.args.self.now.watch comes in
    kept-added course n c.in-Some.flight c.note.new.self (come_up c.order.result.now c.up.result.now c.args.up.now) comes.live asked
    (subst (IsLast course n (last_flight course (suc n))) c.in-Some.is last)
    noted.number noted.from noted.onsets
    (λ es is.
    noted.entries es is
    ∙ ap (λ t. take ENTRIES (es ++ entries_of t c.args.phase.number (come_up c.order.result.now c.up.result.now c.args.up.now))) tick
    ∙ ap (λ p. take ENTRIES (es ++ entries_of n p (come_up c.order.result.now c.up.result.now c.args.up.now))) (comes.phase_is ∙ sym comes.in_phase))
