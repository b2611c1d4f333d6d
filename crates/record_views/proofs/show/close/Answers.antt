use Rattle.std.proofs.Common.{◌∙◌}
use Rattle.book_model.specs.Sealed.{the_book}
use Rattle.record_views.proofs.Viewed.{same-closing, part-behind, closed, closed-part, on-err}
use Rattle.record_views.proofs.show.close.Goals as goal

pub returns-in_err-close-clause-same_sink : goal.returns-in_err-close-clause-same_sink
returns-in_err-close-clause-same_sink g c =
    let (h, seen) = c.requires.ended in
    same-closing g.O.Sink.agrees c.args.out.now c.close.new.out (g.V.View.closing (g.V.View.settings c.args.view.now) (the_book c.args.book.now) h) c.close.result
    (c.close.ensures.closes h seen.0 seen.1) (c.close.ensures.part h seen.0 seen.1)

pub returns-in_err-close-clause-part : goal.returns-in_err-close-clause-part
returns-in_err-close-clause-part g c = λ h seen count.
    on-err _ c.from_residual.result
    (part-behind g.O.Sink.agrees c.args.out.now c.close.new.out (g.V.View.closing (g.V.View.settings c.args.view.now) (the_book c.args.book.now) h)
    (c.in_err-close.ensures.part h seen count))

pub returns-clause-same_sink : goal.returns-clause-same_sink
returns-clause-same_sink g c =
    let (h, seen) = c.requires.ended in
    c.hand_over.ensures.same_sink
    ∙ same-closing g.O.Sink.agrees c.args.out.now c.close.new.out (g.V.View.closing (g.V.View.settings c.args.view.now) (the_book c.args.book.now) h) c.close.result
    (c.close.ensures.closes h seen.0 seen.1) (c.close.ensures.part h seen.0 seen.1)

pub returns-clause-all : goal.returns-clause-all
returns-clause-all g c = λ h seen count.
    closed g.O.Sink.agrees c.args.out.now c.close.new.out c.hand_over.new.self (g.V.View.closing (g.V.View.settings c.args.view.now) (the_book c.args.book.now) h)
    (c.in_ok-close.ensures.closes h seen count) c.hand_over.ensures.handed c.hand_over.result c.hand_over.ensures.empty

pub returns-clause-part : goal.returns-clause-part
returns-clause-part g c = λ h seen count.
    closed-part g.O.Sink.agrees c.args.out.now c.close.new.out c.hand_over.new.self (g.V.View.closing (g.V.View.settings c.args.view.now) (the_book c.args.book.now) h)
    (c.in_ok-close.ensures.closes h seen count) c.hand_over.ensures.handed c.hand_over.result
