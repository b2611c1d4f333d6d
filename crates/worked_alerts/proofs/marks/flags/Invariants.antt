use Rattle.std.proofs.Common.{◌≡◌, vec_len}
use Rattle.worked_alerts.proofs.marks.flags.Given as goal

abbrev pub invariant-loop-alert : goal.invariant-loop-alert
invariant-loop-alert l = vec_len l.flags ≡ l.alert
