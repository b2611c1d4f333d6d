use Rattle.std.proofs.Common.{◌<◌, length, sym, ap, subst}
use Rattle.std.specs.Prelude.{IfSome}
use Rattle.crew_marks.specs.CrewMarks.{CrewMarks}
use Rattle.crew_marks.proofs.Stepping.{first-fits}
use Rattle.crew_marks.proofs.marks.Marks.first.Goals as goal

pub returns-clause-within : goal.returns-clause-within
returns-clause-within c = λ b fits.
    subst (λ o. IfSome o (λ a. a < length b.alerts)) (sym (ap (λ (m : CrewMarks). m.first) c.self.view_is)) (first-fits b c.args.self.now fits)
