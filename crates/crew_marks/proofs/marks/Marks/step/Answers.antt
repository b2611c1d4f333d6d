use Rattle.book_model.specs.Sealed.{the_book}
use Rattle.crew_marks.proofs.Stepping.{stepped-hidden, stepped-restored, stepped-recalled}
use Rattle.crew_marks.proofs.Looking.{all-steps, all-done, all-stand}
use Rattle.crew_marks.proofs.marks.Marks.step.Goals as goal

pub returns-clause-stands : goal.returns-clause-stands
returns-clause-stands c = λ cockpit k of_book sees stands.
    let b = the_book c.args.book.now in
    let ups = c.args.up.now in
    let waits = c.args.waiting.now in
    let was = c.args.self.now in
    all-stand b ups waits _ _ _ was _ _ c.self.view_is c.requires.fits c.step_by.ensures cockpit k c.args.keys.now c.args.enters_one of_book sees stands
    (c.doing-held_since.ensures.sees b cockpit k ups waits sees stands)
    (all-steps b ups waits _ _ _ was _ _ c.self.view_is c.requires.fits c.step_by.ensures c.take_all.ensures.all)

pub returns-clause-hidden : goal.returns-clause-hidden
returns-clause-hidden c = λ quiet a only.
    let b = the_book c.args.book.now in
    let ups = c.args.up.now in
    let waits = c.args.waiting.now in
    let was = c.args.self.now in
    stepped-hidden b ups waits _ was c.step_by.new.self.sets c.requires.fits
    (all-done b ups waits _ _ _ was _ _ c.self.view_is c.requires.fits c.step_by.ensures _ c.doing-held_since.ensures.does c.take_all.ensures.all)
    a quiet only

pub returns-clause-restored : goal.returns-clause-restored
returns-clause-restored c = λ pressed a only.
    let b = the_book c.args.book.now in
    let ups = c.args.up.now in
    let waits = c.args.waiting.now in
    let was = c.args.self.now in
    stepped-restored b ups waits _ was c.step_by.new.self.sets c.requires.fits
    (all-done b ups waits _ _ _ was _ _ c.self.view_is c.requires.fits c.step_by.ensures _ c.doing-held_since.ensures.does c.take_all.ensures.all)
    a pressed only

pub returns-clause-recalled : goal.returns-clause-recalled
returns-clause-recalled c = λ pressed a wait.
    let b = the_book c.args.book.now in
    let ups = c.args.up.now in
    let waits = c.args.waiting.now in
    let was = c.args.self.now in
    stepped-recalled b ups waits _ was c.step_by.new.self.sets c.requires.fits
    (all-done b ups waits _ _ _ was _ _ c.self.view_is c.requires.fits c.step_by.ensures _ c.doing-held_since.ensures.does c.take_all.ensures.all)
    a c.requires.waiting pressed wait
