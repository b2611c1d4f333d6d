use Rattle.std.proofs.Common.{ap, ◌∙◌}
use Rattle.crew_marks.specs.MarkSets.{mark_at, set_mark}
use Rattle.crew_marks.specs.MarkStep.{mark_after}
use Rattle.crew_marks.proofs.walk.step_one.Goals as goal

pub returns-clause-mark : goal.returns-clause-mark
returns-clause-mark c = c.step.ensures.mark ∙ ap (λ g. set_mark c.args.sets.now c.args.place (mark_after (mark_at c.args.sets.now c.args.place) g c.args.actions.now)) c.look-sight.ensures
