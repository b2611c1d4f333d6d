use Rattle.std.proofs.Common.{leb, sym, ap, ◌∙◌}
use Rattle.alert_truth.proofs.Moments.{present-running, present-broken}
use Rattle.alert_truth.proofs.run.is_present.Goals as goal

pub returns-in-Some : goal.returns-in-Some
returns-in-Some c = λ p since.
    ap (λ n. leb n c.saturating_sub.result) c.from.ensures ∙ ap (λ n. leb c.args.confirm n) c.saturating_sub.ensures
    ∙ present-running c.args.confirm p c.args.now c.in-Some.start (sym c.in-Some.is ∙ since)

pub returns-in-None : goal.returns-in-None
returns-in-None c = λ p since. present-broken c.args.confirm p c.args.now (sym c.in-None.is ∙ since)
