use Rattle.std.proofs.Common.{◌≡◌, ◌≤◌, ◌+◌, List, ◌++◌, length, take}
use Rattle.view_spec.specs.declared.flight_report.TheConstants.{ENTRIES}
use Rattle.view_spec.specs.declared.flight_report.Entry.{Entry}
use Rattle.view_spec.specs.FlightReport.{entries_of}
use Rattle.flight_report.proofs.Entries.{so_far}
use Rattle.flight_report.proofs.flight.Flight.note.Given as goal

-- the alerts so far are counted, and the first of them are kept
abbrev pub invariant-loop-i : goal.invariant-loop-i
invariant-loop-i l = record {
  number : l.self.number ≡ l.initial.self.number;
  from : l.self.from ≡ l.initial.self.from;
  onsets : l.self.onsets ≡ l.initial.self.onsets + length (so_far l.order l.was l.up l.i);
  few : l.self.onsets ≤ l.initial.self.onsets + l.i;
  entries : (es : List Entry) → l.initial.self.entries.items ≡ take ENTRIES es
      → l.self.entries.items ≡ take ENTRIES (es ++ entries_of l.tick l.phase.number (so_far l.order l.was l.up l.i));
}
