use Rattle.std.proofs.Common.{◌≡◌, length, refl, sym, ◌∙◌, ap, subst}
use Rattle.ecam_spec.specs.Situation.{phase_in, up_in}
use Rattle.ecam_spec.specs.Replay.{tick_count}
use Rattle.ecam_spec.proofs.HistoryLaws.{era_nil}
use Rattle.book_model.specs.Sealed.{the_book}
use Rattle.book_model.proofs.BookLists.{many-alerts}
use Rattle.view_spec.specs.FlightReport.{last_flight}
use Rattle.flight_report.specs.Kept.{Watches, WatchStands}
use Rattle.flight_report.proofs.report.Report.new.Goals as goal

pub returns : goal.returns
unfolding tick_count last_flight
returns c =
    let b = the_book c.args.book.now in
    let many : length c.alerts.result.now ≡ length b.alerts = ap length c.alerts.ensures.value ∙ sym (many-alerts c.args.book.now) in
    record {
      stands = record {
        ticks = refl;
        flight = refl;
        fits = subst (λ n. Watches n c.in_ok-new.field-0) many c.in_ok-new.ensures.fits;
        watch = λ up m continues.
            subst (λ k. WatchStands (length b.alerts) (up_in b m) (phase_in b m) k c.in_ok-new.field-0) (sym (ap (λ e. length e.moments) era_nil))
            (subst (λ n. WatchStands n (up_in b m) (phase_in b m) 0 c.in_ok-new.field-0) many (c.in_ok-new.ensures.stands (up_in b m) (phase_in b m)));
      };
    }
