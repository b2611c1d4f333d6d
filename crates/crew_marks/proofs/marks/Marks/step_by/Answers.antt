use Rattle.std.proofs.Common.{refl}
use Rattle.book_model.specs.Sealed.{the_book}
use Rattle.crew_marks.proofs.Stepping.{first-found}
use Rattle.crew_marks.proofs.Ending.{walked-ends}
use Rattle.crew_marks.proofs.marks.Marks.step_by.Goals as goal

pub walk-walked-requires-clause-target : goal.walk-walked-requires-clause-target
walk-walked-requires-clause-target c = first-found (the_book c.args.book.now) _ c.args.self.now c.self.view_is c.requires.fits

pub returns : goal.returns
returns c =
    let walk = c.walk-walked.ensures in
    walked-ends (the_book c.args.book.now) c.args.up.now c.args.waiting.now c.args.actions.now c.args.self.now _ _ c.end_moment.new.self
    c.requires.fits c.requires.up c.requires.waiting c.self.view_is c.walk-walked.new.sets refl
    c.walk-walked.result c.args.held_since walk.steps walk.many walk.first walk.changed c.end_moment.ensures.ends c.end_moment.ensures.press
