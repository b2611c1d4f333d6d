use Rattle.std.proofs.Common.{◌≡◌, ℕ, List, ◌++◌, ap, ◌∙◌, subst}
use Rattle.std.specs.Prelude.{OnOk, OnErr}
use Rattle.ecam_io.specs.Outside.{Appended, AppendedPrefix}
use Rattle.ecam_spec.specs.declared.kinds.Event.{Event}
use Rattle.ecam_spec.specs.Book.{Book}
use Rattle.ecam_spec.specs.Output.{end_line}
use Rattle.ecam_spec.specs.Situation.{alert_at}
use Rattle.ecam_spec.specs.Replay.{tick_count}
use Rattle.book_model.specs.Sealed.{the_book}
use Rattle.view_spec.specs.FlightReport.{last_report, course, report_closing}
use Rattle.flight_report.specs.Kept.{last_text, ReportStands}
use Rattle.flight_report.specs.declared.report.Report.{Report}
use Rattle.flight_report.proofs.Flights as flights
use Rattle.flight_report.proofs.report.ReportView.close.Goals as goal

closing-is : (b : Book) (h : List Event) (r : Report) (ticks : ℕ) → ReportStands b h r → ticks ≡ tick_count h
    → last_text (λ a. (alert_at b a).name) r.flight ++ end_line ticks ≡ report_closing b h
unfolding report_closing course
closing-is b h r ticks stands count =
    ap (λ t. t ++ end_line ticks) (flights.last-text (course b h) (tick_count h) r.flight stands.flight)
    ∙ ap (λ n. last_report (course b h) (tick_count h) ++ end_line n) count

pub returns-clause-closes : goal.returns-clause-closes
returns-clause-closes g c = λ h stands count.
    subst (λ t. OnOk c.put_closing.result (Appended g.O.Sink.agrees c.args.out.now c.put_closing.new.out t))
    (closing-is (the_book c.args.book.now) h c.args.self.now c.args.ticks stands count) c.put_closing.ensures.all

pub returns-clause-part : goal.returns-clause-part
returns-clause-part g c = λ h stands count.
    subst (λ t. OnErr c.put_closing.result (AppendedPrefix g.O.Sink.agrees c.args.out.now c.put_closing.new.out t))
    (closing-is (the_book c.args.book.now) h c.args.self.now c.args.ticks stands count) c.put_closing.ensures.prefix
