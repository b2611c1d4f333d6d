use Rattle.std.proofs.Common.{◌≡◌, ◌≤◌, ◌-◌, ℕ, length}
use Rattle.ecam_spec.specs.History.{Moment}
use Rattle.ecam_spec.specs.Situation.{condition_in, phase_in}
use Rattle.book_model.specs.Sealed.{the_book}
use Rattle.term_eval.specs.declared.env.Env.{Env}
use Rattle.alert_truth.specs.TruthsState.{TruthsFit, OthersStay}
use Rattle.fwc_lane.specs.Conditions.{AlertsHalf}
use Rattle.fwc_lane.specs.TermsFit.{TermsFit}
use Rattle.fwc_lane.proofs.alerts.step_later_alerts.Given as goal

abbrev pub invariant-loop-phase : goal.invariant-loop-phase
invariant-loop-phase l = record {
  most : l.next ≤ length l.book.alerts.items;
  terms : TermsFit (the_book l.book) l.terms;
  fits : TruthsFit (the_book l.book) l.truths;
  moments : l.truths.moments ≡ l.fn.truths.moments;
  due : l.truths.due ≡ l.fn.truths.due;
  stands : (m : ℕ → Moment) (visits : ℕ) (env : Env) → l.phase.number ≡ phase_in (the_book l.book) m l.now
      → OthersStay (the_book l.book) (condition_in (the_book l.book) m) (phase_in (the_book l.book) m) l.now l.fn.truths.due
      → AlertsHalf (the_book l.book) m l.now 0 visits l.fn.terms l.fn.truths → AlertsHalf (the_book l.book) m l.now l.next visits l.terms l.truths;
}

abbrev pub decreases-loop-phase : goal.decreases-loop-phase
decreases-loop-phase l = length l.book.alerts.items - l.next
