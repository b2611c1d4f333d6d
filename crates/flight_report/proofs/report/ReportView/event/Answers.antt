use Rattle.std.proofs.Common.{[], refl, sym, ◌∙◌, arith, append-nil}
use Rattle.ecam_io.proofs.Calls.{Appended-none}
use Rattle.book_model.specs.Sealed.{the_book}
use Rattle.view_spec.specs.FlightReport.{report_text}
use Rattle.view_spec.proofs.FlightLaws.{report-quiet}
use Rattle.flight_report.proofs.Ticking.{no-tick, stands-on}
use Rattle.flight_report.proofs.report.ReportView.event.Goals as goal

pub returns : goal.returns
returns g c =
    let b = the_book c.args.book.now in
    let quiet = no-tick c.args.event.now c.in_default.not-Tick in
    let passed = c.pass.ensures in
    record {
      settings = refl;
      stands = λ h stands next.
          stands-on b h c.args.event.now quiet c.args.self.now c.pass.new.self stands passed.ticks passed.flight (passed.fits _ stands.fits)
          (λ none. passed.kept (next.fresh_is ∙ none))
          (λ here up phases. passed.forgotten _ up phases (next.fresh_is ∙ here) stands.fits);
      adds = λ h stands next. record {
        more = [];
        joined = report-quiet b h c.args.event.now quiet ∙ sym (append-nil (report_text b h));
        written = Appended-none g.O.Sink.agrees c.args.out.now;
      };
      part = λ h stands next. tt;
      cause = tt;
      faults = omega arith;
      quiet = refl;
    }
