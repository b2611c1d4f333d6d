use Rattle.std.proofs.Common.{◌≡◌, ℕ, ◌∙◌, subst}
use Rattle.ecam_io.specs.Outside.{Appended}
use Rattle.ecam_spec.specs.Book.{Text}
use Rattle.ecam_spec.specs.Situation.{alert_at}
use Rattle.book_model.specs.Sealed.{the_book}
use Rattle.view_spec.specs.FlightReport.{flight_line}
use Rattle.flight_report.specs.Kept.{entry_lines}
use Rattle.flight_report.proofs.Written.{part-after}
use Rattle.flight_report.proofs.flight.Flight.put.Goals as goal

pub returns-clause-prefix : goal.returns-clause-prefix
returns-clause-prefix g c =
    let f = c.args.self.now in
    let name : ℕ → Text = λ a. (alert_at (the_book c.args.book.now) a).name in
    let line : c.as_slice.result.now ≡ flight_line f.number f.from f.onsets = c.as_slice.ensures.value ∙ c.flight_line-line.ensures in
    part-after g.O.Sink.agrees c.put_entries.result c.args.out.now c.put_all.new.out c.put_entries.new.out (flight_line f.number f.from f.onsets) (entry_lines name f.entries.items)
    (subst (Appended g.O.Sink.agrees c.args.out.now c.put_all.new.out) line c.in_ok-put_all.ensures.all)
    (rw c.as_slice-2.ensures.value at c.put_entries.ensures.prefix)
