use Rattle.std.proofs.Common.{◌∙◌, ap}
use Rattle.advisories.specs.Watches.{watched, next_drift}
use Rattle.advisories.specs.declared.drift.Drift.{Drift}
use Rattle.advisories.specs.declared.watches.Watch.{Watch}
use Rattle.advisories.proofs.watches.step_one.Goals as goal

pub returns-clause-stepped : goal.returns-clause-stepped
returns-clause-stepped c m k ended =
    let w = c.args.watch.now in
    let with : Drift → Watch = λ d. record w { drift = d } in
    ap with (c.next-watch.ensures ∙ ap (λ v. next_drift (watched w) v w.drift) (c.value-value.ensures.value ended.current ended.stands m ended.goes k ended.counted))
