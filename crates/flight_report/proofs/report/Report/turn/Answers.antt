use Rattle.std.proofs.Common.{◌≡◌, [], true, false, cond, sym, ◌∙◌, ap, subst}
use Rattle.ecam_io.specs.Outside.{Appended, AppendedPrefix}
use Rattle.ecam_io.proofs.Calls.{Appended-none}
use Rattle.ecam_spec.specs.Book.{Text}
use Rattle.ecam_spec.specs.Situation.{alert_at}
use Rattle.book_model.specs.Sealed.{the_book}
use Rattle.view_spec.specs.FlightReport.{begins}
use Rattle.flight_report.specs.Kept.{last_text}
use Rattle.flight_report.proofs.Written.{on-err}
use Rattle.flight_report.proofs.Flights.{last-stays, kept-begun}
use Rattle.flight_report.proofs.report.Report.turn.Goals as goal

pub returns-then-not-begins_flight-clause-flight : goal.returns-then-not-begins_flight-clause-flight
returns-then-not-begins_flight-clause-flight g c = λ course n up tick comes last.
    last-stays course n c.args.self.now.flight (sym (c.begins_flight.ensures (the_book c.args.book.now) course n up comes) ∙ c.if-not-begins_flight.true) last

pub returns-then-not-begins_flight-clause-all : goal.returns-then-not-begins_flight-clause-all
returns-then-not-begins_flight-clause-all g c = λ course n up comes.
    let b = the_book c.args.book.now in
    let text : Text = last_text (λ a. (alert_at b a).name) c.args.self.now.flight in
    let none : begins course n ≡ false = sym (c.begins_flight.ensures b course n up comes) ∙ c.if-not-begins_flight.true in
    subst (Appended g.O.Sink.agrees c.args.out.now c.args.out.now) (sym (ap (λ x. cond x text []) none)) (Appended-none g.O.Sink.agrees c.args.out.now)

pub returns-in_err-put_last-clause-prefix : goal.returns-in_err-put_last-clause-prefix
returns-in_err-put_last-clause-prefix g c = λ course n up comes.
    let b = the_book c.args.book.now in
    let text : Text = last_text (λ a. (alert_at b a).name) c.args.self.now.flight in
    let here : begins course n ≡ true = sym (c.begins_flight.ensures b course n up comes) ∙ c.if-not-begins_flight.false in
    on-err c.from_residual.result
    (subst (AppendedPrefix g.O.Sink.agrees c.args.out.now c.put_last.new.out) (sym (ap (λ x. cond x text []) here)) c.in_err-put_last.ensures.prefix)

pub returns-clause-flight : goal.returns-clause-flight
returns-clause-flight g c = λ course n up tick comes last.
    let here : begins course n ≡ true = sym (c.begins_flight.ensures (the_book c.args.book.now) course n up comes) ∙ c.if-not-begins_flight.false in
    let begun = c.new.ensures in
    kept-begun course n c.new.result here (begun.from ∙ tick) (begun.number ∙ c.flights.ensures course n last) begun.onsets begun.entries

pub returns-clause-all : goal.returns-clause-all
returns-clause-all g c = λ course n up comes.
    let b = the_book c.args.book.now in
    let text : Text = last_text (λ a. (alert_at b a).name) c.args.self.now.flight in
    let here : begins course n ≡ true = sym (c.begins_flight.ensures b course n up comes) ∙ c.if-not-begins_flight.false in
    subst (Appended g.O.Sink.agrees c.args.out.now c.put_last.new.out) (sym (ap (λ x. cond x text []) here)) c.in_ok-put_last.ensures.all
