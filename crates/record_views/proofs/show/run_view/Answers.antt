use Rattle.std.proofs.Common.{◌≡◌, ◌≤◌, sym, ap, ◌∙◌, subst}
use Rattle.ecam_io.specs.Outside.{Rose}
use Rattle.book_model.specs.Sealed.{the_book}
use Rattle.record_views.specs.Showing.{shown_by}
use Rattle.record_views.specs.Runs.{Shows}
use Rattle.record_views.proofs.show.run_view.Goals as goal

-- the sink is, when it is handed back, what the gathering has left of it
pub returns-clause-shows : goal.returns-clause-shows
returns-clause-shows g c =
    let b = the_book c.args.book.now in
    let kept = c.out-1.given.1 (sym (c.show_lines.ensures.same_sink ∙ c.new-gathering.ensures.same_sink)) in
    let by = shown_by g.V.View (g.V.View.settings c.args.view.now) b in
    let left = g.S.Source.left c.args.source.now in
    let after = g.S.Source.left c.show_lines.new.source in
    subst (λ o. Shows b by g.O.Sink.agrees c.args.out.now o c.show_lines.new.pair c.args.limit left after c.show_lines.result) (sym kept)
    (subst (λ o. Shows b by g.O.Sink.agrees o c.show_lines.new.out.out.now c.show_lines.new.pair c.args.limit left after c.show_lines.result) c.new-gathering.ensures.sink
    c.show_lines.ensures.shows)

pub returns-clause-write : goal.returns-clause-write
returns-clause-write g c = λ failed.
    let kept = c.out-1.given.1 (sym (c.show_lines.ensures.same_sink ∙ c.new-gathering.ensures.same_sink)) in
    subst (λ o. Rose (g.O.Sink.faults c.args.out.now) (g.O.Sink.faults o)) (sym kept)
    (subst (λ o. Rose (g.O.Sink.faults o) (g.O.Sink.faults c.show_lines.new.out.out.now)) c.new-gathering.ensures.sink (c.show_lines.ensures.write failed))

pub returns-clause-out_faults : goal.returns-clause-out_faults
returns-clause-out_faults g c =
    let kept = c.out-1.given.1 (sym (c.show_lines.ensures.same_sink ∙ c.new-gathering.ensures.same_sink)) in
    subst (λ o. g.O.Sink.faults c.args.out.now ≤ g.O.Sink.faults o) (sym kept)
    (subst (λ o. g.O.Sink.faults o ≤ g.O.Sink.faults c.show_lines.new.out.out.now) c.new-gathering.ensures.sink c.show_lines.ensures.out_faults)

pub returns-clause-out_quiet : goal.returns-clause-out_quiet
returns-clause-out_quiet g c = λ unfailed.
    let kept = c.out-1.given.1 (sym (c.show_lines.ensures.same_sink ∙ c.new-gathering.ensures.same_sink)) in
    ap g.O.Sink.faults kept ∙ c.show_lines.ensures.out_quiet unfailed ∙ ap g.O.Sink.faults c.new-gathering.ensures.sink
