use Rattle.std.proofs.Common.{◌∙◌, ◌∷◌, ◌++◌, ◌&&◌, [], ap}
use Rattle.ecam_spec.specs.History.{comes_up, none_up}
use Rattle.book_model.specs.Sealed.{the_book}
use Rattle.fwc_pair.specs.Views.{IsNext}
use Rattle.fwc_pair.proofs.HistoryVisits.{visited-event}
use Rattle.record_views.specs.Showing.{shown_by}
use Rattle.record_views.proofs.Viewed.{same-event, fed, fed-part}
use Rattle.record_views.proofs.show.feed.Goals as goal

pub event-requires-2-clause-next : goal.event-requires-2-clause-next
event-requires-2-clause-next g c =
    let (h, seen) = c.requires.seen in (
      h,
      (
        seen.seen,
        (record {
          event = c.requires.event;
          goes_on = c.requires.goes_on;
          pair = c.event.ensures.stands h seen.stands;
          fresh_is = c.begins_era-fresh.ensures ∙ ap (λ f. comes_up c.args.event.now && none_up f) seen.stands.flags;
          few = seen.few;
        }),
      ),
    )

pub returns-clause-same_sink : goal.returns-clause-same_sink
returns-clause-same_sink g c =
    let (h, seen) = c.requires.seen in
    let next : IsNext (the_book c.args.book.now) h c.args.event.now c.begins_era-fresh.result c.event.new.self = (record {
      event = c.requires.event;
      goes_on = c.requires.goes_on;
      pair = c.event.ensures.stands h seen.stands;
      fresh_is = c.begins_era-fresh.ensures ∙ ap (λ f. comes_up c.args.event.now && none_up f) seen.stands.flags;
      few = seen.few;
    }) in
    let o = (shown_by g.V.View (g.V.View.settings c.args.view.now) (the_book c.args.book.now)) in
    same-event g.O.Sink.agrees c.args.out.now c.event-2.new.out (o.text h) (o.text (h ++ c.args.event.now ∷ [])) c.event-2.result
    (c.event-2.ensures.adds h seen.seen next) (c.event-2.ensures.part h seen.seen next)

pub returns-clause-fed : goal.returns-clause-fed
returns-clause-fed g c = λ h seen.
    let next : IsNext (the_book c.args.book.now) h c.args.event.now c.begins_era-fresh.result c.event.new.self = (record {
      event = c.requires.event;
      goes_on = c.requires.goes_on;
      pair = c.event.ensures.stands h seen.stands;
      fresh_is = c.begins_era-fresh.ensures ∙ ap (λ f. comes_up c.args.event.now && none_up f) seen.stands.flags;
      few = seen.few;
    }) in
    fed g.O.Sink.agrees c.args.out.now c.event-2.new.out (the_book c.args.book.now) (shown_by g.V.View (g.V.View.settings c.args.view.now) (the_book c.args.book.now)) h c.args.event.now c.event.new.self
    (g.V.View.stands c.event-2.new.self (the_book c.args.book.now)) next.pair c.event-2.result
    (c.event-2.ensures.stands h seen.seen next) (c.event-2.ensures.adds h seen.seen next)

pub returns-clause-part : goal.returns-clause-part
returns-clause-part g c = λ h seen.
    let next : IsNext (the_book c.args.book.now) h c.args.event.now c.begins_era-fresh.result c.event.new.self = (record {
      event = c.requires.event;
      goes_on = c.requires.goes_on;
      pair = c.event.ensures.stands h seen.stands;
      fresh_is = c.begins_era-fresh.ensures ∙ ap (λ f. comes_up c.args.event.now && none_up f) seen.stands.flags;
      few = seen.few;
    }) in
    fed-part g.O.Sink.agrees c.args.out.now c.event-2.new.out (the_book c.args.book.now) (shown_by g.V.View (g.V.View.settings c.args.view.now) (the_book c.args.book.now)) h c.args.event.now c.event-2.result
    (c.event-2.ensures.part h seen.seen next)

pub returns-clause-visits : goal.returns-clause-visits
returns-clause-visits g c = λ h st.
    visited-event (the_book c.args.book.now) h c.args.event.now c.args.pair.now c.event.new.self c.requires.pair st.flags
    (c.event.ensures.visits h st) c.event.ensures.unvisited
