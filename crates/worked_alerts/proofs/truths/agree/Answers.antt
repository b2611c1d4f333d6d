use Rattle.std.proofs.Common.{sym, ap, subst, arith}
use Rattle.book_model.specs.Sealed.{the_book}
use Rattle.alert_truth.specs.TruthsState.{TruthsFit}
use Rattle.alert_truth.specs.declared.truths.Truths.{Truths}
use Rattle.worked_alerts.proofs.truths.agree.Goals as goal
use Rattle.worked_alerts.proofs.truths.agree.Goals.{then-number-eq0, else-number-eq0}

pub loop-row-preserved : goal.loop-row-preserved
loop-row-preserved c =
    let b = the_book c.args.book.now in
    let was = c.loop-row.invariant in
    elim c.if-number-eq0.branch [
      | then-number-eq0 w ↦
          record {
            fits = subst (TruthsFit b) (sym w.truths-is) (w.clear.ensures.fits b was.fits);
            other = subst (TruthsFit b) (sym w.other-is) was.other;
            moments = omega (arith, ap (λ (t : Truths). t.moments) w.truths-is, w.clear.ensures.moments);
          }
      | else-number-eq0 w ↦
          record {
            fits = subst (TruthsFit b) (sym w.truths-is) (w.copy_from-else-number-eq0.ensures.fits b was.fits w.step.ensures.fits);
            other = subst (TruthsFit b) (sym w.other-is) w.step.ensures.fits;
            moments =
                omega (arith, ap (λ (t : Truths). t.moments) w.truths-is, w.copy_from-else-number-eq0.ensures.moments, w.step.ensures.moments, w.copy_from.ensures.moments, was.moments);
          }
    ]
