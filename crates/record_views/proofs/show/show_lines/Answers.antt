use Rattle.std.proofs.Common.{◌≡◌, ◌+◌, ◌≤◌, ◌++◌, ◌∷◌, [], List, ℕ, true, false, Ok, Err, MatchBool, None, Some, cond, refl, sym, ap, ◌∙◌, subst, inl}
use Rattle.std.specs.Prelude.{OnOk, OnErr}
use Rattle.ecam_spec.specs.RecordLine.{is_end_event}
use Rattle.record_lines.specs.Reader.{room, settled, kept_answer, reads_next}
use Rattle.record_lines.specs.Reads.{TellsAfter, TellsEvent, TellsEnd, MeetsEnd, piece_call, last_call, Makes, Asks}
use Rattle.book_model.specs.Sealed.{the_book}
use Rattle.ecam_io.specs.Outside.{Appended, AppendedPrefix}
use Rattle.gathering.proofs.Handing.{handed-prefix, handed-whole}
use Rattle.record_views.specs.Showing.{shown_by}
use Rattle.record_views.specs.Runs.{HasMetFault, HasFed, HasFedPart, IsAt}
use Rattle.record_lines.specs.declared.outcome.LineError.TheVariants as line_errors
use Rattle.record_views.specs.declared.show.RunError.TheVariants as RunError
use Rattle.record_views.proofs.Asked.{asked-none, asked-more, asked-last, asked-spared, unneeded, unless-write, finished-last, fault-last}
use Rattle.record_views.proofs.Endings.{at-start, at-handed, at-next, at-broken, at-broken-unwritten, at-fault, at-fault-unwritten, at-few, at-few-moments, at-seen, growing, at-unhanded, at-unwritten, at-finished, at-end-visited}
use Rattle.record_views.proofs.Viewed.{on-ok}
use Rattle.record_views.proofs.show.show_lines.Goals as goal

pub lines-init : goal.lines-init
lines-init g c = record {
  at = subst (λ gathered. IsAt (the_book c.args.book.now) (shown_by g.V.View (g.V.View.settings c.args.view.now) (the_book c.args.book.now)) g.O.Sink.agrees c.args.out.now.out.now c.args.out.now.out.now (g.V.View.stands c.args.view.now (the_book c.args.book.now)) gathered c.args.limit (g.S.Source.left c.args.source.now) (g.S.Source.left c.args.source.now) c.new-reader.result c.restart.new.self c.restart.new.self 0)
      (sym c.requires.empty)
      (at-start (the_book c.args.book.now) (shown_by g.V.View (g.V.View.settings c.args.view.now) (the_book c.args.book.now)) (growing (the_book c.args.book.now) g.V.View (g.V.View.settings c.args.view.now) (g.met.V.View.begins_empty (g.V.View.settings c.args.view.now) (the_book c.args.book.now)) (g.met.V.View.goes_on (g.V.View.settings c.args.view.now) (the_book c.args.book.now))) g.O.Sink.agrees c.args.out.now.out.now c.args.limit (g.S.Source.left c.args.source.now) c.restart.new.self (g.V.View.stands c.args.view.now (the_book c.args.book.now)) c.requires.new c.new-reader.result
      c.new-reader.ensures.reads c.new-reader.ensures.room c.new-reader.ensures.settled c.restart.ensures.stands);
  fits = c.restart.ensures.fits;
  settings = refl;
  same_sink = refl;
  asked = asked-none g.S.Source.reads c.args.source.now;
  quiet = refl;
  out_quiet = refl;
  is_open = refl;
  files = refl;
  opens = refl;
}

pub feed-requires-clause-moments : goal.feed-requires-clause-moments
feed-requires-clause-moments g c =
    at-few-moments (the_book c.args.book.now) (shown_by g.V.View (g.V.View.settings c.args.view.now) (the_book c.args.book.now)) (growing (the_book c.args.book.now) g.V.View (g.V.View.settings c.args.view.now) (g.met.V.View.begins_empty (g.V.View.settings c.args.view.now) (the_book c.args.book.now)) (g.met.V.View.goes_on (g.V.View.settings c.args.view.now) (the_book c.args.book.now))) g.O.Sink.agrees c.args.out.now.out.now c.args.limit (g.S.Source.left c.args.source.now) c.restart.new.self
    c.lines.out.out.now (g.V.View.stands c.lines.view (the_book c.args.book.now)) c.lines.out.bytes.items (g.S.Source.left c.lines.source) c.lines.reader c.lines.pair c.lines.ticks c.lines.invariant.at c.ranges.limit.fits

pub ticks_with-counted-requires : goal.ticks_with-counted-requires
ticks_with-counted-requires g c =
    at-few (the_book c.args.book.now) (shown_by g.V.View (g.V.View.settings c.args.view.now) (the_book c.args.book.now)) (growing (the_book c.args.book.now) g.V.View (g.V.View.settings c.args.view.now) (g.met.V.View.begins_empty (g.V.View.settings c.args.view.now) (the_book c.args.book.now)) (g.met.V.View.goes_on (g.V.View.settings c.args.view.now) (the_book c.args.book.now))) g.O.Sink.agrees c.args.out.now.out.now c.args.limit (g.S.Source.left c.args.source.now) c.restart.new.self
    c.lines.out.out.now (g.V.View.stands c.lines.view (the_book c.args.book.now)) c.lines.out.bytes.items (g.S.Source.left c.lines.source) c.lines.reader c.lines.pair c.lines.ticks c.lines.invariant.at c.ranges.limit.fits

pub feed-requires-clause-seen : goal.feed-requires-clause-seen
feed-requires-clause-seen g c = (
  c.lines.invariant.at.answered,
  at-seen (the_book c.args.book.now) (shown_by g.V.View (g.V.View.settings c.args.view.now) (the_book c.args.book.now)) (growing (the_book c.args.book.now) g.V.View (g.V.View.settings c.args.view.now) (g.met.V.View.begins_empty (g.V.View.settings c.args.view.now) (the_book c.args.book.now)) (g.met.V.View.goes_on (g.V.View.settings c.args.view.now) (the_book c.args.book.now))) g.O.Sink.agrees c.args.out.now.out.now c.args.limit (g.S.Source.left c.args.source.now) c.restart.new.self
      c.lines.out.out.now (g.V.View.stands c.lines.view (the_book c.args.book.now)) c.lines.out.bytes.items (g.S.Source.left c.lines.source) c.lines.reader c.lines.pair c.lines.ticks c.lines.invariant.at c.ranges.limit.fits,
)

pub finish-requires-clause-ended : goal.finish-requires-clause-ended
finish-requires-clause-ended g c =
    (c.lines.invariant.at.answered, (c.lines.invariant.at.seen, c.lines.invariant.at.ticks_are))

pub lines-preserved : goal.lines-preserved
lines-preserved g c =
    let at = at-handed (the_book c.args.book.now) (shown_by g.V.View (g.V.View.settings c.args.view.now) (the_book c.args.book.now)) (growing (the_book c.args.book.now) g.V.View (g.V.View.settings c.args.view.now) (g.met.V.View.begins_empty (g.V.View.settings c.args.view.now) (the_book c.args.book.now)) (g.met.V.View.goes_on (g.V.View.settings c.args.view.now) (the_book c.args.book.now))) g.O.Sink.agrees c.args.out.now.out.now c.args.limit (g.S.Source.left c.args.source.now) c.restart.new.self
    c.lines.out.out.now (g.V.View.stands c.lines.view (the_book c.args.book.now)) c.lines.out.bytes.items (g.S.Source.left c.lines.source) c.lines.reader c.lines.pair c.lines.ticks c.lines.invariant.at
    c.hand_over_before_read.new.out.out.now c.hand_over_before_read.new.out.bytes.items c.in-Ok.ensures.handed in
    let other : is_end_event c.in-Ok-next.event ≡ false = sym c.is_end.ensures ∙ c.if-is_end.false in
    let told = c.in-Ok-next.ensures.told in
    let tells = subst (λ e. MatchBool e (TellsEnd c.args.limit (at.taken ++ told.more) at.answered c.next.new.self) (TellsEvent c.args.limit (at.taken ++ told.more) (at.answered ++ c.in-Ok-next.event ∷ []) c.next.new.self))
    other (told.tells c.args.limit at.taken at.answered at.reads) in
    record {
      at = at-next (the_book c.args.book.now) (shown_by g.V.View (g.V.View.settings c.args.view.now) (the_book c.args.book.now)) (growing (the_book c.args.book.now) g.V.View (g.V.View.settings c.args.view.now) (g.met.V.View.begins_empty (g.V.View.settings c.args.view.now) (the_book c.args.book.now)) (g.met.V.View.goes_on (g.V.View.settings c.args.view.now) (the_book c.args.book.now))) g.O.Sink.agrees c.args.out.now.out.now c.args.limit (g.S.Source.left c.args.source.now) c.restart.new.self
          c.hand_over_before_read.new.out.out.now (g.V.View.stands c.lines.view (the_book c.args.book.now)) c.hand_over_before_read.new.out.bytes.items (g.S.Source.left c.lines.source) c.lines.reader c.lines.pair c.lines.ticks at
          c.feed.new.out.out.now (g.V.View.stands c.feed.new.view (the_book c.args.book.now)) c.feed.new.out.bytes.items (g.S.Source.left c.next.new.source) c.next.new.self c.feed.new.pair c.ticks_with-counted.result c.in-Ok-next.event told.more told.moved tells
          (c.in-Ok-next.ensures.settled ∙ ap (λ e. cond e (Some (Ok c.in-Ok-next.event)) None) other)
          (subst (λ e. room c.next.new.self + cond e 0 2 ≤ room c.lines.reader) other c.in-Ok-next.ensures.fewer)
          (subst (λ s. HasFed (the_book c.args.book.now) (shown_by g.V.View s (the_book c.args.book.now)) g.O.Sink.agrees c.hand_over_before_read.new.out.out.now c.feed.new.out.out.now (g.V.View.stands c.feed.new.view (the_book c.args.book.now)) c.hand_over_before_read.new.out.bytes.items c.feed.new.out.bytes.items at.answered c.in-Ok-next.event c.feed.new.pair)
          c.lines.invariant.settings
          (c.in-Ok-feed.ensures.fed at.answered (at-seen (the_book c.args.book.now) (shown_by g.V.View (g.V.View.settings c.args.view.now) (the_book c.args.book.now)) (growing (the_book c.args.book.now) g.V.View (g.V.View.settings c.args.view.now) (g.met.V.View.begins_empty (g.V.View.settings c.args.view.now) (the_book c.args.book.now)) (g.met.V.View.goes_on (g.V.View.settings c.args.view.now) (the_book c.args.book.now))) g.O.Sink.agrees c.args.out.now.out.now c.args.limit (g.S.Source.left c.args.source.now) c.restart.new.self
          c.hand_over_before_read.new.out.out.now (g.V.View.stands c.lines.view (the_book c.args.book.now)) c.hand_over_before_read.new.out.bytes.items (g.S.Source.left c.lines.source) c.lines.reader c.lines.pair c.lines.ticks at c.ranges.limit.fits)))
          (c.in-Ok-feed.ensures.visits at.answered at.stands)
          (c.ticks_with-counted.ensures at.answered at.ticks_are);
      fits = c.in-Ok-feed.ensures.pair;
      settings = c.in-Ok-feed.ensures.settings ∙ c.lines.invariant.settings;
      same_sink = c.in-Ok-feed.ensures.same_sink ∙ c.in-Ok.ensures.same_sink ∙ c.lines.invariant.same_sink;
      asked = asked-more g.S.Source.reads c.args.source.now c.lines.source c.next.new.source c.lines.invariant.asked (reads_next c.lines.reader) (Ok c.in-Ok-next.event)
          (c.in-Ok-next.ensures.asks at.unsettled) (ap (λ e. cond e (piece_call (Some 0) ∷ []) []) other);
      quiet = c.in-Ok-next.ensures.quiet (λ e. let never : ⊥ = cc in never) ∙ c.lines.invariant.quiet;
      out_quiet = c.in-Ok-feed.ensures.quiet ∙ c.in-Ok.ensures.quiet ∙ c.lines.invariant.out_quiet;
      is_open = c.in-Ok-next.ensures.is_open ∙ c.lines.invariant.is_open;
      files = c.in-Ok-next.ensures.files ∙ c.lines.invariant.files;
      opens = c.in-Ok-next.ensures.opens ∙ c.lines.invariant.opens;
    }

-- ---- what is written at each ending

pub returns-in-Err-clause-shows : goal.returns-in-Err-clause-shows
returns-in-Err-clause-shows g c =
    at-unhanded (the_book c.args.book.now) (shown_by g.V.View (g.V.View.settings c.args.view.now) (the_book c.args.book.now)) (growing (the_book c.args.book.now) g.V.View (g.V.View.settings c.args.view.now) (g.met.V.View.begins_empty (g.V.View.settings c.args.view.now) (the_book c.args.book.now)) (g.met.V.View.goes_on (g.V.View.settings c.args.view.now) (the_book c.args.book.now))) g.O.Sink.agrees c.args.out.now.out.now c.args.limit (g.S.Source.left c.args.source.now) c.restart.new.self
    c.lines.out.out.now (g.V.View.stands c.lines.view (the_book c.args.book.now)) c.lines.out.bytes.items (g.S.Source.left c.lines.source) c.lines.reader c.lines.pair c.lines.ticks c.lines.invariant.at
    c.hand_over_before_read.new.out.out.now (handed-prefix g.O.Sink.agrees c.lines.out.out.now c.hand_over_before_read.new.out.out.now c.lines.out.bytes.items c.hand_over_before_read.new.out.bytes.items c.in-Err.ensures.handed)

pub returns-in-Ok-hand_over-clause-shows : goal.returns-in-Ok-hand_over-clause-shows
returns-in-Ok-hand_over-clause-shows g c =
    let at = at-handed (the_book c.args.book.now) (shown_by g.V.View (g.V.View.settings c.args.view.now) (the_book c.args.book.now)) (growing (the_book c.args.book.now) g.V.View (g.V.View.settings c.args.view.now) (g.met.V.View.begins_empty (g.V.View.settings c.args.view.now) (the_book c.args.book.now)) (g.met.V.View.goes_on (g.V.View.settings c.args.view.now) (the_book c.args.book.now))) g.O.Sink.agrees c.args.out.now.out.now c.args.limit (g.S.Source.left c.args.source.now) c.restart.new.self
    c.lines.out.out.now (g.V.View.stands c.lines.view (the_book c.args.book.now)) c.lines.out.bytes.items (g.S.Source.left c.lines.source) c.lines.reader c.lines.pair c.lines.ticks c.lines.invariant.at
    c.hand_over_before_read.new.out.out.now c.hand_over_before_read.new.out.bytes.items c.in-Ok.ensures.handed in
    let told = c.in-Err-Failed.ensures.told in
    let tells = subst (λ e. TellsAfter c.args.limit (at.taken ++ told.more) at.answered (Err e) c.next.new.self) c.in-Err-Failed.field-0-is (told.tells c.args.limit at.taken at.answered at.reads) in
    at-broken (the_book c.args.book.now) (shown_by g.V.View (g.V.View.settings c.args.view.now) (the_book c.args.book.now)) (growing (the_book c.args.book.now) g.V.View (g.V.View.settings c.args.view.now) (g.met.V.View.begins_empty (g.V.View.settings c.args.view.now) (the_book c.args.book.now)) (g.met.V.View.goes_on (g.V.View.settings c.args.view.now) (the_book c.args.book.now))) g.O.Sink.agrees c.args.out.now.out.now c.args.limit (g.S.Source.left c.args.source.now) c.restart.new.self
    c.hand_over_before_read.new.out.out.now (g.V.View.stands c.lines.view (the_book c.args.book.now)) c.hand_over_before_read.new.out.bytes.items (g.S.Source.left c.lines.source) c.lines.reader c.lines.pair c.lines.ticks at
    c.hand_over.new.self.out.now (g.S.Source.left c.next.new.source) c.next.new.self told.more (handed-whole g.O.Sink.agrees c.hand_over_before_read.new.out.out.now c.hand_over.new.self.out.now c.hand_over_before_read.new.out.bytes.items c.hand_over.new.self.bytes.items c.in-Ok-hand_over.ensures.handed c.in-Ok-hand_over.ensures.empty) told.moved tells

pub returns-in-Err-hand_over-clause-shows : goal.returns-in-Err-hand_over-clause-shows
returns-in-Err-hand_over-clause-shows g c =
    let at = at-handed (the_book c.args.book.now) (shown_by g.V.View (g.V.View.settings c.args.view.now) (the_book c.args.book.now)) (growing (the_book c.args.book.now) g.V.View (g.V.View.settings c.args.view.now) (g.met.V.View.begins_empty (g.V.View.settings c.args.view.now) (the_book c.args.book.now)) (g.met.V.View.goes_on (g.V.View.settings c.args.view.now) (the_book c.args.book.now))) g.O.Sink.agrees c.args.out.now.out.now c.args.limit (g.S.Source.left c.args.source.now) c.restart.new.self
    c.lines.out.out.now (g.V.View.stands c.lines.view (the_book c.args.book.now)) c.lines.out.bytes.items (g.S.Source.left c.lines.source) c.lines.reader c.lines.pair c.lines.ticks c.lines.invariant.at
    c.hand_over_before_read.new.out.out.now c.hand_over_before_read.new.out.bytes.items c.in-Ok.ensures.handed in
    let told = c.in-Err-Failed.ensures.told in
    let tells = subst (λ e. TellsAfter c.args.limit (at.taken ++ told.more) at.answered (Err e) c.next.new.self) c.in-Err-Failed.field-0-is (told.tells c.args.limit at.taken at.answered at.reads) in
    at-broken-unwritten (the_book c.args.book.now) (shown_by g.V.View (g.V.View.settings c.args.view.now) (the_book c.args.book.now)) (growing (the_book c.args.book.now) g.V.View (g.V.View.settings c.args.view.now) (g.met.V.View.begins_empty (g.V.View.settings c.args.view.now) (the_book c.args.book.now)) (g.met.V.View.goes_on (g.V.View.settings c.args.view.now) (the_book c.args.book.now))) g.O.Sink.agrees c.args.out.now.out.now c.args.limit (g.S.Source.left c.args.source.now) c.restart.new.self
    c.hand_over_before_read.new.out.out.now (g.V.View.stands c.lines.view (the_book c.args.book.now)) c.hand_over_before_read.new.out.bytes.items (g.S.Source.left c.lines.source) c.lines.reader c.lines.pair c.lines.ticks at
    c.hand_over.new.self.out.now (handed-prefix g.O.Sink.agrees c.hand_over_before_read.new.out.out.now c.hand_over.new.self.out.now c.hand_over_before_read.new.out.bytes.items c.hand_over.new.self.bytes.items c.in-Err-hand_over.ensures.handed) (g.S.Source.left c.next.new.source) c.next.new.self told.more told.moved tells
    (subst (λ e. settled c.next.new.self ≡ kept_answer (Err e)) c.in-Err-Failed.field-0-is c.in-Err-Failed.ensures.settled)

pub returns-in-Ok-hand_over-2-clause-shows : goal.returns-in-Ok-hand_over-2-clause-shows
returns-in-Ok-hand_over-2-clause-shows g c =
    let at = at-handed (the_book c.args.book.now) (shown_by g.V.View (g.V.View.settings c.args.view.now) (the_book c.args.book.now)) (growing (the_book c.args.book.now) g.V.View (g.V.View.settings c.args.view.now) (g.met.V.View.begins_empty (g.V.View.settings c.args.view.now) (the_book c.args.book.now)) (g.met.V.View.goes_on (g.V.View.settings c.args.view.now) (the_book c.args.book.now))) g.O.Sink.agrees c.args.out.now.out.now c.args.limit (g.S.Source.left c.args.source.now) c.restart.new.self
    c.lines.out.out.now (g.V.View.stands c.lines.view (the_book c.args.book.now)) c.lines.out.bytes.items (g.S.Source.left c.lines.source) c.lines.reader c.lines.pair c.lines.ticks c.lines.invariant.at
    c.hand_over_before_read.new.out.out.now c.hand_over_before_read.new.out.bytes.items c.in-Ok.ensures.handed in
    let told = c.in-Err-Record.ensures.told in
    let tells = subst (λ e. TellsAfter c.args.limit (at.taken ++ told.more) at.answered (Err e) c.next.new.self) c.in-Err-Record.field-0-is (told.tells c.args.limit at.taken at.answered at.reads) in
    subst (λ f. (text : List ℕ) → g.S.Source.left c.args.source.now ≡ Some text → HasMetFault (the_book c.args.book.now) (shown_by g.V.View (g.V.View.settings c.args.view.now) (the_book c.args.book.now)) g.O.Sink.agrees c.args.out.now.out.now c.hand_over-in-Err-Record.new.self.out.now c.args.limit text (g.S.Source.left c.next.new.source) f) (sym c.in-Err-Record.fault-is)
    (at-fault (the_book c.args.book.now) (shown_by g.V.View (g.V.View.settings c.args.view.now) (the_book c.args.book.now)) (growing (the_book c.args.book.now) g.V.View (g.V.View.settings c.args.view.now) (g.met.V.View.begins_empty (g.V.View.settings c.args.view.now) (the_book c.args.book.now)) (g.met.V.View.goes_on (g.V.View.settings c.args.view.now) (the_book c.args.book.now))) g.O.Sink.agrees c.args.out.now.out.now c.args.limit (g.S.Source.left c.args.source.now) c.restart.new.self
    c.hand_over_before_read.new.out.out.now (g.V.View.stands c.lines.view (the_book c.args.book.now)) c.hand_over_before_read.new.out.bytes.items (g.S.Source.left c.lines.source) c.lines.reader c.lines.pair c.lines.ticks at
    c.hand_over-in-Err-Record.new.self.out.now (g.S.Source.left c.next.new.source) c.next.new.self told.more c.in-Err-Record.fault (handed-whole g.O.Sink.agrees c.hand_over_before_read.new.out.out.now c.hand_over-in-Err-Record.new.self.out.now c.hand_over_before_read.new.out.bytes.items c.hand_over-in-Err-Record.new.self.bytes.items c.in-Ok-hand_over-2.ensures.handed c.in-Ok-hand_over-2.ensures.empty) told.moved tells
    (subst (λ e. MeetsEnd (g.S.Source.left c.lines.source) (g.S.Source.left c.next.new.source) (Err e)) c.in-Err-Record.field-0-is (c.in-Err-Record.ensures.end at.unsettled)))

pub returns-in-Err-hand_over-2-clause-shows : goal.returns-in-Err-hand_over-2-clause-shows
returns-in-Err-hand_over-2-clause-shows g c =
    let at = at-handed (the_book c.args.book.now) (shown_by g.V.View (g.V.View.settings c.args.view.now) (the_book c.args.book.now)) (growing (the_book c.args.book.now) g.V.View (g.V.View.settings c.args.view.now) (g.met.V.View.begins_empty (g.V.View.settings c.args.view.now) (the_book c.args.book.now)) (g.met.V.View.goes_on (g.V.View.settings c.args.view.now) (the_book c.args.book.now))) g.O.Sink.agrees c.args.out.now.out.now c.args.limit (g.S.Source.left c.args.source.now) c.restart.new.self
    c.lines.out.out.now (g.V.View.stands c.lines.view (the_book c.args.book.now)) c.lines.out.bytes.items (g.S.Source.left c.lines.source) c.lines.reader c.lines.pair c.lines.ticks c.lines.invariant.at
    c.hand_over_before_read.new.out.out.now c.hand_over_before_read.new.out.bytes.items c.in-Ok.ensures.handed in
    let told = c.in-Err-Record.ensures.told in
    let tells = subst (λ e. TellsAfter c.args.limit (at.taken ++ told.more) at.answered (Err e) c.next.new.self) c.in-Err-Record.field-0-is (told.tells c.args.limit at.taken at.answered at.reads) in
    at-fault-unwritten (the_book c.args.book.now) (shown_by g.V.View (g.V.View.settings c.args.view.now) (the_book c.args.book.now)) (growing (the_book c.args.book.now) g.V.View (g.V.View.settings c.args.view.now) (g.met.V.View.begins_empty (g.V.View.settings c.args.view.now) (the_book c.args.book.now)) (g.met.V.View.goes_on (g.V.View.settings c.args.view.now) (the_book c.args.book.now))) g.O.Sink.agrees c.args.out.now.out.now c.args.limit (g.S.Source.left c.args.source.now) c.restart.new.self
    c.hand_over_before_read.new.out.out.now (g.V.View.stands c.lines.view (the_book c.args.book.now)) c.hand_over_before_read.new.out.bytes.items (g.S.Source.left c.lines.source) c.lines.reader c.lines.pair c.lines.ticks at
    c.hand_over-in-Err-Record.new.self.out.now (g.S.Source.left c.next.new.source) c.next.new.self told.more c.in-Err-Record.fault (handed-prefix g.O.Sink.agrees c.hand_over_before_read.new.out.out.now c.hand_over-in-Err-Record.new.self.out.now c.hand_over_before_read.new.out.bytes.items c.hand_over-in-Err-Record.new.self.bytes.items c.in-Err-hand_over-2.ensures.handed) told.moved tells
    (subst (λ e. MeetsEnd (g.S.Source.left c.lines.source) (g.S.Source.left c.next.new.source) (Err e)) c.in-Err-Record.field-0-is (c.in-Err-Record.ensures.end at.unsettled))

pub returns-then-is_end-clause-shows : goal.returns-then-is_end-clause-shows
returns-then-is_end-clause-shows g c =
    let at = at-handed (the_book c.args.book.now) (shown_by g.V.View (g.V.View.settings c.args.view.now) (the_book c.args.book.now)) (growing (the_book c.args.book.now) g.V.View (g.V.View.settings c.args.view.now) (g.met.V.View.begins_empty (g.V.View.settings c.args.view.now) (the_book c.args.book.now)) (g.met.V.View.goes_on (g.V.View.settings c.args.view.now) (the_book c.args.book.now))) g.O.Sink.agrees c.args.out.now.out.now c.args.limit (g.S.Source.left c.args.source.now) c.restart.new.self
    c.lines.out.out.now (g.V.View.stands c.lines.view (the_book c.args.book.now)) c.lines.out.bytes.items (g.S.Source.left c.lines.source) c.lines.reader c.lines.pair c.lines.ticks c.lines.invariant.at
    c.hand_over_before_read.new.out.out.now c.hand_over_before_read.new.out.bytes.items c.in-Ok.ensures.handed in
    let over : is_end_event c.in-Ok-next.event ≡ true = sym c.is_end.ensures ∙ c.if-is_end.true in
    let told = c.in-Ok-next.ensures.told in
    let tells = subst (λ e. MatchBool e (TellsEnd c.args.limit (at.taken ++ told.more) at.answered c.next.new.self) (TellsEvent c.args.limit (at.taken ++ told.more) (at.answered ++ c.in-Ok-next.event ∷ []) c.next.new.self))
    over (told.tells c.args.limit at.taken at.answered at.reads) in
    at-finished (the_book c.args.book.now) (shown_by g.V.View (g.V.View.settings c.args.view.now) (the_book c.args.book.now)) (growing (the_book c.args.book.now) g.V.View (g.V.View.settings c.args.view.now) (g.met.V.View.begins_empty (g.V.View.settings c.args.view.now) (the_book c.args.book.now)) (g.met.V.View.goes_on (g.V.View.settings c.args.view.now) (the_book c.args.book.now))) g.O.Sink.agrees c.args.out.now.out.now c.args.limit (g.S.Source.left c.args.source.now) c.restart.new.self
    c.hand_over_before_read.new.out.out.now (g.V.View.stands c.lines.view (the_book c.args.book.now)) c.hand_over_before_read.new.out.bytes.items (g.S.Source.left c.lines.source) c.lines.reader c.lines.pair c.lines.ticks at
    c.finish.new.out.out.now (g.S.Source.left c.next.new.source) c.next.new.self told.more c.finish.result told.moved tells
    (c.in-Ok-next.ensures.end at.unsettled over) c.finish.ensures.ticks
    (subst (λ s. OnOk c.finish.result (Appended g.O.Sink.agrees c.hand_over_before_read.new.out.out.now c.finish.new.out.out.now (c.hand_over_before_read.new.out.bytes.items ++ g.V.View.closing s (the_book c.args.book.now) at.answered)))
    c.lines.invariant.settings (c.finish.ensures.ok at.answered at.seen at.ticks_are))
    (subst (λ s. OnErr c.finish.result (AppendedPrefix g.O.Sink.agrees c.hand_over_before_read.new.out.out.now c.finish.new.out.out.now (c.hand_over_before_read.new.out.bytes.items ++ g.V.View.closing s (the_book c.args.book.now) at.answered)))
    c.lines.invariant.settings (c.finish.ensures.err at.answered at.seen at.ticks_are))
    c.finish.ensures.cause

pub returns-in-Err-feed-clause-shows : goal.returns-in-Err-feed-clause-shows
returns-in-Err-feed-clause-shows g c =
    let at = at-handed (the_book c.args.book.now) (shown_by g.V.View (g.V.View.settings c.args.view.now) (the_book c.args.book.now)) (growing (the_book c.args.book.now) g.V.View (g.V.View.settings c.args.view.now) (g.met.V.View.begins_empty (g.V.View.settings c.args.view.now) (the_book c.args.book.now)) (g.met.V.View.goes_on (g.V.View.settings c.args.view.now) (the_book c.args.book.now))) g.O.Sink.agrees c.args.out.now.out.now c.args.limit (g.S.Source.left c.args.source.now) c.restart.new.self
    c.lines.out.out.now (g.V.View.stands c.lines.view (the_book c.args.book.now)) c.lines.out.bytes.items (g.S.Source.left c.lines.source) c.lines.reader c.lines.pair c.lines.ticks c.lines.invariant.at
    c.hand_over_before_read.new.out.out.now c.hand_over_before_read.new.out.bytes.items c.in-Ok.ensures.handed in
    let other : is_end_event c.in-Ok-next.event ≡ false = sym c.is_end.ensures ∙ c.if-is_end.false in
    let told = c.in-Ok-next.ensures.told in
    let tells = subst (λ e. MatchBool e (TellsEnd c.args.limit (at.taken ++ told.more) at.answered c.next.new.self) (TellsEvent c.args.limit (at.taken ++ told.more) (at.answered ++ c.in-Ok-next.event ∷ []) c.next.new.self))
    other (told.tells c.args.limit at.taken at.answered at.reads) in
    at-unwritten (the_book c.args.book.now) (shown_by g.V.View (g.V.View.settings c.args.view.now) (the_book c.args.book.now)) (growing (the_book c.args.book.now) g.V.View (g.V.View.settings c.args.view.now) (g.met.V.View.begins_empty (g.V.View.settings c.args.view.now) (the_book c.args.book.now)) (g.met.V.View.goes_on (g.V.View.settings c.args.view.now) (the_book c.args.book.now))) g.O.Sink.agrees c.args.out.now.out.now c.args.limit (g.S.Source.left c.args.source.now) c.restart.new.self
    c.hand_over_before_read.new.out.out.now (g.V.View.stands c.lines.view (the_book c.args.book.now)) c.hand_over_before_read.new.out.bytes.items (g.S.Source.left c.lines.source) c.lines.reader c.lines.pair c.lines.ticks at
    c.feed.new.out.out.now (g.S.Source.left c.next.new.source) c.next.new.self c.in-Ok-next.event told.more
    (subst (λ s. HasFedPart (the_book c.args.book.now) (shown_by g.V.View s (the_book c.args.book.now)) g.O.Sink.agrees c.hand_over_before_read.new.out.out.now c.feed.new.out.out.now c.hand_over_before_read.new.out.bytes.items at.answered c.in-Ok-next.event)
    c.lines.invariant.settings (c.in-Err-feed.ensures.part at.answered (at-seen (the_book c.args.book.now) (shown_by g.V.View (g.V.View.settings c.args.view.now) (the_book c.args.book.now)) (growing (the_book c.args.book.now) g.V.View (g.V.View.settings c.args.view.now) (g.met.V.View.begins_empty (g.V.View.settings c.args.view.now) (the_book c.args.book.now)) (g.met.V.View.goes_on (g.V.View.settings c.args.view.now) (the_book c.args.book.now))) g.O.Sink.agrees c.args.out.now.out.now c.args.limit (g.S.Source.left c.args.source.now) c.restart.new.self
    c.hand_over_before_read.new.out.out.now (g.V.View.stands c.lines.view (the_book c.args.book.now)) c.hand_over_before_read.new.out.bytes.items (g.S.Source.left c.lines.source) c.lines.reader c.lines.pair c.lines.ticks at c.ranges.limit.fits)))
    told.moved tells
    (c.in-Ok-next.ensures.settled ∙ ap (λ e. cond e (Some (Ok c.in-Ok-next.event)) None) other)

-- ---- what was visited

pub returns-then-is_end-clause-visits : goal.returns-then-is_end-clause-visits
returns-then-is_end-clause-visits g c =
    let at = c.lines.invariant.at in
    let over : is_end_event c.in-Ok-next.event ≡ true = sym c.is_end.ensures ∙ c.if-is_end.true in
    let told = c.in-Ok-next.ensures.told in
    let tells = subst (λ e. MatchBool e (TellsEnd c.args.limit (at.taken ++ told.more) at.answered c.next.new.self) (TellsEvent c.args.limit (at.taken ++ told.more) (at.answered ++ c.in-Ok-next.event ∷ []) c.next.new.self))
    over (told.tells c.args.limit at.taken at.answered at.reads) in
    on-ok _ c.finish.result
    (at-end-visited (the_book c.args.book.now) (shown_by g.V.View (g.V.View.settings c.args.view.now) (the_book c.args.book.now)) (growing (the_book c.args.book.now) g.V.View (g.V.View.settings c.args.view.now) (g.met.V.View.begins_empty (g.V.View.settings c.args.view.now) (the_book c.args.book.now)) (g.met.V.View.goes_on (g.V.View.settings c.args.view.now) (the_book c.args.book.now))) g.O.Sink.agrees c.args.out.now.out.now c.args.limit (g.S.Source.left c.args.source.now) c.restart.new.self
    c.lines.out.out.now (g.V.View.stands c.lines.view (the_book c.args.book.now)) c.lines.out.bytes.items (g.S.Source.left c.lines.source) c.lines.reader c.lines.pair c.lines.ticks at
    c.args.pair.now c.restart.ensures.unvisited (g.S.Source.left c.next.new.source) c.next.new.self told.more told.moved tells (c.in-Ok-next.ensures.end at.unsettled over))

-- ---- the calls of `read`

pub returns-in-Err-clause-asks : goal.returns-in-Err-clause-asks
returns-in-Err-clause-asks g c =
    asked-spared g.S.Source.reads c.args.source.now c.lines.source c.lines.source c.lines.invariant.asked refl

pub returns-in-Ok-hand_over-clause-asks : goal.returns-in-Ok-hand_over-clause-asks
returns-in-Ok-hand_over-clause-asks g c =
    asked-last g.S.Source.reads c.args.source.now c.lines.source c.next.new.source c.lines.invariant.asked (reads_next c.lines.reader) (Err line_errors.Failed)
    (subst (λ e. Makes g.S.Source.reads c.lines.source c.next.new.source (Asks (reads_next c.lines.reader) (Err e))) c.in-Err-Failed.field-0-is (c.in-Err-Failed.ensures.asks c.lines.invariant.at.unsettled))
    (Err RunError.Read) refl

pub returns-in-Err-hand_over-clause-asks : goal.returns-in-Err-hand_over-clause-asks
returns-in-Err-hand_over-clause-asks g c =
    asked-spared g.S.Source.reads c.args.source.now c.lines.source c.next.new.source c.lines.invariant.asked
    (unneeded (reads_next c.lines.reader) (λ needs. let none = c.in-Err-hand_over.ensures.nothing (c.in-Ok.ensures.empty needs) in let never : ⊥ = cc in never) c.in-Err-Failed.ensures.spared)

pub returns-in-Ok-hand_over-2-clause-asks : goal.returns-in-Ok-hand_over-2-clause-asks
returns-in-Ok-hand_over-2-clause-asks g c =
    asked-last g.S.Source.reads c.args.source.now c.lines.source c.next.new.source c.lines.invariant.asked (reads_next c.lines.reader) (Err (line_errors.Record c.in-Err-Record.fault))
    (subst (λ e. Makes g.S.Source.reads c.lines.source c.next.new.source (Asks (reads_next c.lines.reader) (Err e))) c.in-Err-Record.field-0-is (c.in-Err-Record.ensures.asks c.lines.invariant.at.unsettled))
    _ (ap (λ f. last_call (Err (line_errors.Record f))) (sym c.in-Err-Record.fault-is))

pub returns-in-Err-hand_over-2-clause-asks : goal.returns-in-Err-hand_over-2-clause-asks
returns-in-Err-hand_over-2-clause-asks g c =
    asked-last g.S.Source.reads c.args.source.now c.lines.source c.next.new.source c.lines.invariant.asked (reads_next c.lines.reader) (Err (line_errors.Record c.in-Err-Record.fault))
    (subst (λ e. Makes g.S.Source.reads c.lines.source c.next.new.source (Asks (reads_next c.lines.reader) (Err e))) c.in-Err-Record.field-0-is (c.in-Err-Record.ensures.asks c.lines.invariant.at.unsettled))
    (Err RunError.Write) (fault-last c.in-Err-Record.fault)

pub returns-then-is_end-clause-asks : goal.returns-then-is_end-clause-asks
returns-then-is_end-clause-asks g c =
    let over : is_end_event c.in-Ok-next.event ≡ true = sym c.is_end.ensures ∙ c.if-is_end.true in
    asked-last g.S.Source.reads c.args.source.now c.lines.source c.next.new.source c.lines.invariant.asked (reads_next c.lines.reader) (Ok c.in-Ok-next.event)
    (c.in-Ok-next.ensures.asks c.lines.invariant.at.unsettled) c.finish.result
    (finished-last c.finish.result (last_call (Ok c.in-Ok-next.event)) c.finish.ensures.cause (ap (λ e. cond e (piece_call (Some 0) ∷ []) []) over))

pub returns-in-Err-feed-clause-asks : goal.returns-in-Err-feed-clause-asks
returns-in-Err-feed-clause-asks g c =
    let other : is_end_event c.in-Ok-next.event ≡ false = sym c.is_end.ensures ∙ c.if-is_end.false in
    asked-last g.S.Source.reads c.args.source.now c.lines.source c.next.new.source c.lines.invariant.asked (reads_next c.lines.reader) (Ok c.in-Ok-next.event)
    (c.in-Ok-next.ensures.asks c.lines.invariant.at.unsettled) (Err RunError.Write) (inl (ap (λ e. cond e (piece_call (Some 0) ∷ []) []) other))

-- ---- which faults were counted

pub returns-in-Err-hand_over-clause-quiet : goal.returns-in-Err-hand_over-clause-quiet
returns-in-Err-hand_over-clause-quiet g c other =
    unneeded (reads_next c.lines.reader) (λ needs. let none = c.in-Err-hand_over.ensures.nothing (c.in-Ok.ensures.empty needs) in let never : ⊥ = cc in never)
    (λ spared. ap g.S.Source.faults (c.in-Err-Failed.ensures.spared spared) ∙ c.lines.invariant.quiet)

pub returns-then-is_end-clause-out_quiet : goal.returns-then-is_end-clause-out_quiet
returns-then-is_end-clause-out_quiet g c other =
    unless-write c.finish.result c.finish.ensures.cause other c.finish.ensures.quiet ∙ c.in-Ok.ensures.quiet ∙ c.lines.invariant.out_quiet

pub returns-in-Err-feed-clause-quiet : goal.returns-in-Err-feed-clause-quiet
returns-in-Err-feed-clause-quiet g c other =
    c.in-Ok-next.ensures.quiet (λ e. let never : ⊥ = cc in never) ∙ c.lines.invariant.quiet
