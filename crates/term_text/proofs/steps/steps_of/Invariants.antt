use Rattle.std.proofs.Common.{◌≡◌, ◌≤◌, ◌-◌, length}
use Rattle.ecam_spec.proofs.TermReading.{after_steps, text_reading}
use Rattle.term_text.specs.Pending.{pending, CountsWithin}
use Rattle.term_text.proofs.Tokens.{reading_from}
use Rattle.term_text.proofs.steps.steps_of.Given as goal

abbrev pub invariant-loop-at : goal.invariant-loop-at
invariant-loop-at l = record {
  within : l.at ≤ length l.text;
  counts : CountsWithin l.at (pending l.pending);
  reads : text_reading l.text ≡ after_steps l.steps.items (reading_from l.text l.at (pending l.pending));
}

abbrev pub decreases-loop-at : goal.decreases-loop-at
decreases-loop-at l = length l.text - l.at
