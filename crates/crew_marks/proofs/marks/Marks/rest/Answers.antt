use Rattle.std.proofs.Common.{None, cond, refl, ◌∙◌, ap}
use Rattle.std.specs.Prelude.{is_none}
use Rattle.crew_marks.specs.CrewMarks.{CrewMarks, stands_normal}
use Rattle.crew_marks.proofs.Ending.{rested-fits}
use Rattle.crew_marks.proofs.Quiet.{rested-stands, normal-rests}
use Rattle.crew_marks.proofs.marks.Marks.rest.Goals as goal

pub returns-clause-fits : goal.returns-clause-fits
returns-clause-fits c = λ b fits.
    let ends = c.end_moment.ensures.ends in
    rested-fits b c.args.self.now c.end_moment.new.self fits ends.sets
    (ends.first ∙ c.unchanged-walked.ensures.first ∙ ap (λ (m : CrewMarks). m.first) c.self.view_is) ends.target

pub returns-clause-normal : goal.returns-clause-normal
returns-clause-normal c = λ off.
    let was = c.args.self.now in
    let quiet = is_none c.unchanged-walked.result.first in
    ap (λ o. stands_normal o c.end_moment.new.self.moments) (c.end_moment.ensures.kept refl)
    ∙ ap (stands_normal (cond quiet was.quiet_press None)) c.end_moment.ensures.ends.moments
    ∙ normal-rests quiet was.quiet_press was.moments off

pub returns-clause-stands : goal.returns-clause-stands
returns-clause-stands c = λ b cockpit k fits of_book nothing still stands.
    let ends = c.end_moment.ensures.ends in
    rested-stands b cockpit k c.args.self.now c.end_moment.new.self of_book nothing still stands ends.sets
    fits c.unchanged-walked.result (c.unchanged-walked.ensures.first ∙ ap (λ (m : CrewMarks). m.first) c.self.view_is) ends c.end_moment.ensures.press
