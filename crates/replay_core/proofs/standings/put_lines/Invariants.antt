use Rattle.std.proofs.Common.{◌≡◌, ◌≤◌, List, length}
use Rattle.ecam_io.specs.Outside.{Appended}
use Rattle.ecam_spec.specs.declared.kinds.Event.{Event}
use Rattle.book_model.specs.Sealed.{the_book}
use Rattle.fwc_pair.specs.PairState.{PairStands}
use Rattle.replay_core.proofs.StandingLines.{lines_below}
use Rattle.replay_core.proofs.standings.put_lines.Given as goal

-- the lines of the alerts so far are written
abbrev pub invariant-loop-alert : goal.invariant-loop-alert
invariant-loop-alert g l = record {
  written : (h : List Event) → PairStands (the_book l.book) h l.pair → Appended g.O.Sink.agrees l.initial.out l.out (lines_below (the_book l.book) h l.alert);
  few : l.alert ≤ length (the_book l.book).alerts;
  quiet : g.O.Sink.faults l.out ≡ g.O.Sink.faults l.initial.out;
}
