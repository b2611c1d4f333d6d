use Rattle.std.proofs.Common.{◌≡◌, ◌+◌, suc, false, sym, subst}
use Rattle.crew_marks.specs.CrewMarks.{IsSettled, stands_normal}
use Rattle.crew_marks.specs.MarksState.{MarksFit, MarksStand}
use Rattle.crew_marks.proofs.Passing.{passed, passed-fits, passed-normal, passed-stands, passed-settled}
use Rattle.crew_marks.proofs.marks.Marks.pass.Goals as goal

pub returns-clause-fits : goal.returns-clause-fits
returns-clause-fits c = λ b fits. subst (λ m. MarksFit b (passed m)) (sym c.self.view_is) (passed-fits b c.args.self.now fits c.requires.settled)

pub returns-clause-normal : goal.returns-clause-normal
returns-clause-normal c = λ off.
    subst (λ m. stands_normal m.quiet_press (m.moments + 1) ≡ false) (sym c.self.view_is) (passed-normal c.args.self.now c.requires.settled off)

pub returns-clause-stands : goal.returns-clause-stands
returns-clause-stands c = λ b cockpit k fits of_book nothing still stands.
    subst (λ m. MarksStand b cockpit (suc k) (passed m)) (sym c.self.view_is)
    (passed-stands b cockpit k c.args.self.now fits c.requires.settled of_book nothing still stands)

pub returns-clause-settled : goal.returns-clause-settled
returns-clause-settled c = subst (λ m. IsSettled (passed m)) (sym c.self.view_is) (passed-settled c.args.self.now c.requires.settled)
