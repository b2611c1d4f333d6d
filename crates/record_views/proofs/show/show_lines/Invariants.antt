use Rattle.std.proofs.Common.{◌≡◌}
use Rattle.std.specs.Prelude.{All}
use Rattle.record_lines.specs.Reads.{GivesBytes, Makes}
use Rattle.record_lines.specs.Reader.{room}
use Rattle.book_model.specs.Sealed.{the_book}
use Rattle.fwc_pair.specs.PairState.{PairFits}
use Rattle.record_views.specs.Showing.{shown_by}
use Rattle.record_views.specs.Runs.{IsAt}
use Rattle.record_views.proofs.show.show_lines.Given as goal

abbrev pub invariant-lines : goal.invariant-lines
invariant-lines g l = record {
  at : IsAt (the_book l.book) (shown_by g.V.View (g.V.View.settings l.initial.view) (the_book l.book)) g.O.Sink.agrees l.initial.out.out.now l.out.out.now (g.V.View.stands l.view (the_book l.book)) l.out.bytes.items l.limit (g.S.Source.left l.initial.source) (g.S.Source.left l.source) l.reader l.initial.pair l.pair l.ticks;
  fits : PairFits (the_book l.book) l.pair;
  settings : g.V.View.settings l.view ≡ g.V.View.settings l.initial.view;
  same_sink : l.out.out.ghost_name ≡ l.initial.out.out.ghost_name;
  asked : Makes g.S.Source.reads l.initial.source l.source (All GivesBytes);
  quiet : g.S.Source.faults l.source ≡ g.S.Source.faults l.initial.source;
  out_quiet : g.O.Sink.faults l.out.out.now ≡ g.O.Sink.faults l.initial.out.out.now;
  is_open : g.S.Source.is_open l.source ≡ g.S.Source.is_open l.initial.source;
  files : g.S.Source.files l.source ≡ g.S.Source.files l.initial.source;
  opens : g.S.Source.opens l.source ≡ g.S.Source.opens l.initial.source;
}

abbrev pub decreases-lines : goal.decreases-lines
decreases-lines g l = room l.reader
