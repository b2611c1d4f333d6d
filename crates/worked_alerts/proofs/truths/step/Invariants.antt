use Rattle.std.proofs.Common.{◌≡◌}
use Rattle.book_model.specs.Sealed.{the_book}
use Rattle.alert_truth.specs.TruthsState.{TruthsFit}
use Rattle.worked_alerts.proofs.truths.step.Given as goal

abbrev pub invariant-loop-alert : goal.invariant-loop-alert
invariant-loop-alert l = record {
  fits : TruthsFit (the_book l.book) l.truths;
  moments : l.truths.moments ≡ l.initial.truths.moments;
}
