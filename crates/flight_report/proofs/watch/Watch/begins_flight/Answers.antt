use Rattle.std.proofs.Common.{sym, ◌∙◌}
use Rattle.flight_report.proofs.Watching.{begins-first, begins-later}
use Rattle.flight_report.proofs.watch.Watch.begins_flight.Goals as goal

pub returns-in-Some : goal.returns-in-Some
returns-in-Some c = λ b course n up comes.
    c.enters_one.ensures ∙ sym (begins-later b course n c.args.phase.number up c.args.self.now comes c.in-Some.before c.in-Some.is)

pub returns-in-None : goal.returns-in-None
returns-in-None c = λ b course n up comes. sym (begins-first b course n c.args.phase.number up c.args.self.now comes c.in-None.is)
