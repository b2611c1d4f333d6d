use Rattle.std.proofs.Common.{refl, subst}
use Rattle.replay_core.specs.Answers.{Ends}
use Rattle.replay_core.specs.Calls.{shelf_call, sink_call}
use Rattle.replay_core.specs.declared.outcome.Outcome.TheVariants as outcomes
use Rattle.replay_core.proofs.commands.answer.Goals as goal

pub returns-in-None-clause-ends : goal.returns-in-None-clause-ends
returns-in-None-clause-ends g c =
    subst (λ asked. Ends (shelf_call g.F.Source c.args.files.now c.args.files.now) (sink_call g.O.Sink c.args.out.now c.args.out.now) asked outcomes.Usage)
    c.in-None.ensures.asks (record { usage = refl; opens = refl; faults = refl; kept = refl })
