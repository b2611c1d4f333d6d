use Rattle.std.proofs.Common.{◌∙◌, refl, sym, ap}
use Rattle.book_model.specs.Sealed.{the_book}
use Rattle.crew_marks.specs.CrewMarks.{CrewMarks}
use Rattle.crew_marks.proofs.Ending.{rested-fits, still-steps, ended-stands}
use Rattle.crew_marks.proofs.marks.Marks.step_still.Goals as goal

pub returns-then-act-clause-stands : goal.returns-then-act-clause-stands
returns-then-act-clause-stands c = λ cockpit k of_book sees still.
    c.step_turned.ensures.stands cockpit k of_book sees (λ a within out. record { up = still.up a within; waiting = still.waiting a within })

pub returns-clause-fits : goal.returns-clause-fits
returns-clause-fits c =
    let ends = c.end_moment.ensures.ends in
    rested-fits (the_book c.args.book.now) c.args.self.now c.end_moment.new.self c.requires.fits ends.sets
    (ends.first ∙ c.unchanged-walked.ensures.first ∙ ap (λ (m : CrewMarks). m.first) c.self.view_is) ends.target

pub returns-clause-stands : goal.returns-clause-stands
returns-clause-stands c = λ cockpit k of_book sees still stands.
    let b = the_book c.args.book.now in
    let ups = c.args.up.now in
    let waits = c.args.waiting.now in
    let was = c.args.self.now in
    let new = c.end_moment.new.self in
    let ends = c.end_moment.ensures.ends in
    let does = c.doing-held_since.ensures.sees b cockpit k ups waits sees stands in
    let all =
    still-steps b ups waits _ was new.sets (sym c.act.ensures ∙ c.if-act.false) cockpit k c.args.keys.now c.args.enters_one
    of_book sees c.requires.up c.requires.waiting stands ends.sets still in
    ended-stands b cockpit k ups waits c.args.keys.now c.args.enters_one _ was was new
    of_book sees c.requires.up c.requires.waiting does.0 stands all
    (rested-fits b was new c.requires.fits ends.sets (ends.first ∙ c.unchanged-walked.ensures.first ∙ ap (λ (m : CrewMarks). m.first) c.self.view_is) ends.target)
    c.unchanged-walked.result _ ends refl refl refl does.1 c.end_moment.ensures.press
