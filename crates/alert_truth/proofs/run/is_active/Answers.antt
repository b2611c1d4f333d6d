use Rattle.std.proofs.Common.{◌∙◌}
use Rattle.alert_truth.proofs.Moments.{active-now}
use Rattle.alert_truth.proofs.run.is_active.Goals as goal

pub returns-then-was_active : goal.returns-then-was_active
returns-then-was_active c = λ inhibits p k was inhibited here.
    let told = active-now inhibits p k c.args.present c.args.was_active c.args.inhibited was inhibited here in
    c.if-was_active.true ∙ rw (c.if-present.true, c.if-was_active.true) at told

pub returns-else-was_active : goal.returns-else-was_active
returns-else-was_active c = λ inhibits p k was inhibited here.
    let told = active-now inhibits p k c.args.present c.args.was_active c.args.inhibited was inhibited here in
    rw (c.if-present.true, c.if-was_active.false) at told

pub returns-else-present : goal.returns-else-present
returns-else-present c = λ inhibits p k was inhibited here.
    let told = active-now inhibits p k c.args.present c.args.was_active c.args.inhibited was inhibited here in
    c.if-present.false ∙ rw c.if-present.false at told
