use Rattle.std.proofs.Common.{◌++◌, ◌∷◌, [], ◌∙◌}
use Rattle.book_model.specs.Sealed.{the_book}
use Rattle.view_spec.specs.Callouts.{text}
use Rattle.fwc_pair.proofs.Writing.{adds-none, adds-line, adds-part}
use Rattle.callouts.proofs.view.CalloutsView.event.Goals as goal

pub returns-in-Some-clause-adds : goal.returns-in-Some-clause-adds
returns-in-Some-clause-adds g c = λ h stood next.
    let b = the_book c.args.book.now in
    let all = text b c.args.self.now.param in
    adds-line g.O.Sink.agrees c.args.out.now c.put_all.new.out (all h) (all (h ++ c.args.event.now ∷ [])) _ c.as_slice.result.now
    (c.in-Some.ensures.text h stood next) (c.as_slice.ensures.value ∙ c.call_line.ensures) c.put_all.result c.put_all.ensures.all

pub returns-in-Some-clause-part : goal.returns-in-Some-clause-part
returns-in-Some-clause-part g c = λ h stood next.
    let b = the_book c.args.book.now in
    let all = text b c.args.self.now.param in
    adds-part g.O.Sink.agrees c.args.out.now c.put_all.new.out (all h) (all (h ++ c.args.event.now ∷ [])) _ c.as_slice.result.now
    (c.in-Some.ensures.text h stood next) (c.as_slice.ensures.value ∙ c.call_line.ensures) c.put_all.result c.put_all.ensures.prefix

pub returns-in-None-clause-stands : goal.returns-in-None-clause-stands
returns-in-None-clause-stands g c = λ h stood next. c.in-None.ensures.stands h stood next

pub returns-in-None-clause-adds : goal.returns-in-None-clause-adds
returns-in-None-clause-adds g c = λ h stood next.
    let b = the_book c.args.book.now in
    let all = text b c.args.self.now.param in
    adds-none g.O.Sink.agrees c.args.out.now (all h) (all (h ++ c.args.event.now ∷ [])) (c.in-None.ensures.text h stood next)
