use Rattle.std.proofs.Common.{◌≡◌, ◌≤◌, ℕ, length}
use Rattle.ecam_spec.specs.History.{Moment}
use Rattle.ecam_spec.specs.Situation.{phase_in}
use Rattle.book_model.specs.Sealed.{the_book}
use Rattle.alert_truth.specs.TruthsState.{TruthsFit}
use Rattle.fwc_lane.specs.Conditions.{AlertsHalf}
use Rattle.fwc_lane.specs.Given.{Lends}
use Rattle.fwc_lane.specs.TermsFit.{TermsFit}
use Rattle.fwc_lane.proofs.first_alerts.begin_alerts.Given as goal

abbrev pub invariant-loop-alert : goal.invariant-loop-alert
invariant-loop-alert l = record {
  most : l.alert ≤ length l.book.alerts.items;
  terms : TermsFit (the_book l.book) l.terms;
  fits : TruthsFit (the_book l.book) l.truths;
  moments : l.truths.moments ≡ l.fn.truths.moments;
  stands : (m : ℕ → Moment) (visits : ℕ) → Lends (the_book l.book) m 0 l.env → l.phase.number ≡ phase_in (the_book l.book) m 0
      → AlertsHalf (the_book l.book) m 0 0 visits l.fn.terms l.fn.truths → AlertsHalf (the_book l.book) m 0 l.alert visits l.terms l.truths;
}
