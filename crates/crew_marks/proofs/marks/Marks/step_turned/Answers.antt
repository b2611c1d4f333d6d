use Rattle.std.proofs.Common.{◌∙◌}
use Rattle.book_model.specs.Sealed.{the_book}
use Rattle.crew_marks.proofs.Looking.{turned-stand}
use Rattle.crew_marks.proofs.marks.Marks.step_turned.Goals as goal

pub returns-clause-stands : goal.returns-clause-stands
returns-clause-stands c = λ cockpit k of_book sees still stands.
    let b = the_book c.args.book.now in
    let ups = c.args.up.now in
    let waits = c.args.waiting.now in
    turned-stand b ups waits _ _ _ c.args.self.now _ _ c.self.view_is c.requires.fits c.step_by.ensures cockpit k c.args.keys.now c.args.enters_one of_book sees stands
    (c.doing-held_since.ensures.sees b cockpit k ups waits sees stands)
    c.args.turned.now c.requires.up c.requires.waiting
    (λ on. c.take.ensures.acts (c.act.ensures ∙ on) ups waits c.requires.up_near c.requires.waiting_near)
    (λ off. c.take.ensures.quiet (c.act.ensures ∙ off)) still
