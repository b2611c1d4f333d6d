use Rattle.std.proofs.Common.{◌≡◌, take}
use Rattle.ecam_io.specs.Outside.{Appended}
use Rattle.ecam_spec.specs.Situation.{alert_at}
use Rattle.book_model.specs.Sealed.{the_book}
use Rattle.flight_report.specs.Kept.{entry_lines}
use Rattle.flight_report.proofs.flight.put_entries.Given as goal

-- the lines so far are written
abbrev pub invariant-loop-i : goal.invariant-loop-i
invariant-loop-i g l = record {
  written : Appended g.O.Sink.agrees l.initial.out l.out (entry_lines (λ a. (alert_at (the_book l.book) a).name) (take l.i l.entries));
  quiet : g.O.Sink.faults l.out ≡ g.O.Sink.faults l.initial.out;
}
