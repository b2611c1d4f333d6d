use Rattle.std.proofs.Common.{◌++◌, ◌∷◌, []}
use Rattle.view_spec.specs.Advisories as spec
use Rattle.book_model.specs.Sealed.{the_book}
use Rattle.advisories.specs.State.{settings_of}
use Rattle.fwc_pair.proofs.Writing.{adds-line, adds-part}
use Rattle.advisories.proofs.view.AdvisoriesView.event.Goals as goal

pub returns-clause-adds : goal.returns-clause-adds
returns-clause-adds g c = λ h stood next.
    let all = spec.text (the_book c.args.book.now) (settings_of c.args.self.now) in
    adds-line g.O.Sink.agrees c.args.out.now c.put_all.new.out (all h) (all (h ++ c.args.event.now ∷ [])) _ c.deref.result.now
    (c.take-written.ensures.text h stood next c.requires.fits) c.deref.ensures.0 c.put_all.result c.put_all.ensures.all

pub returns-clause-part : goal.returns-clause-part
returns-clause-part g c = λ h stood next.
    let all = spec.text (the_book c.args.book.now) (settings_of c.args.self.now) in
    adds-part g.O.Sink.agrees c.args.out.now c.put_all.new.out (all h) (all (h ++ c.args.event.now ∷ [])) _ c.deref.result.now
    (c.take-written.ensures.text h stood next c.requires.fits) c.deref.ensures.0 c.put_all.result c.put_all.ensures.prefix
