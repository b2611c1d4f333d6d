use Rattle.std.proofs.Common.{◌≡◌, ◌<◌, ◌≤◌, ◌+◌, ◌-◌, ℕ, true}
use Rattle.ecam_spec.specs.History.{Moment}
use Rattle.ecam_spec.specs.Situation.{condition_in, phase_in}
use Rattle.book_model.specs.Sealed.{the_book}
use Rattle.book_model.specs.Conditions.{alerts_from}
use Rattle.term_eval.specs.declared.env.Env.{Env}
use Rattle.wakes.specs.Marks.{is_marked}
use Rattle.alert_truth.specs.TruthsState.{TruthsFit, OthersStay}
use Rattle.fwc_lane.specs.Conditions.{AlertsHalf}
use Rattle.fwc_lane.specs.TermsFit.{TermsFit}
use Rattle.fwc_lane.specs.Waking.{NoneMarked}
use Rattle.fwc_lane.proofs.alerts.step_up_to.Given as goal

abbrev pub invariant-loop-next : goal.invariant-loop-next
invariant-loop-next l = record {
  low : l.from ≤ l.next;
  most : l.next ≤ l.due;
  marked : l.next < l.due → is_marked l.terms.stirred (alerts_from + l.next) ≡ true;
  terms : TermsFit (the_book l.book) l.terms;
  fits : TruthsFit (the_book l.book) l.truths;
  moments : l.truths.moments ≡ l.fn.truths.moments;
  due : l.truths.due ≡ l.fn.truths.due;
  stands : (m : ℕ → Moment) (visits : ℕ) (env : Env) → l.phase.number ≡ phase_in (the_book l.book) m l.now
      → OthersStay (the_book l.book) (condition_in (the_book l.book) m) (phase_in (the_book l.book) m) l.now l.fn.truths.due
      → NoneMarked l.fn.truths.due l.from l.due
      → AlertsHalf (the_book l.book) m l.now l.from visits l.fn.terms l.fn.truths → AlertsHalf (the_book l.book) m l.now l.next visits l.terms l.truths;
}

abbrev pub decreases-loop-next : goal.decreases-loop-next
decreases-loop-next l = l.due - l.next
