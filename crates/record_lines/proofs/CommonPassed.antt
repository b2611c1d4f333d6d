-- A reader that goes past a line of the common forms, of which no part came before.
use Rattle.std.proofs.Common.{◌≡◌, ℕ, ◌+◌, ◌≤◌, ◌++◌, [], ap, ◌∙◌, arith, length, take, Some, Ok, false}
use Rattle.ecam_spec.specs.declared.kinds.Event.{Event}
use Rattle.ecam_spec.specs.RecordLine.{event_of}
use Rattle.record_lines.specs.declared.outcome.Stage.TheVariants.{Lines}
use Rattle.record_lines.specs.Line.{IsCommon}
use Rattle.record_lines.specs.Reader.{ReaderState, reads_next}
use Rattle.record_lines.specs.Reads.{Gives}
use Rattle.record_lines.proofs.Grows.{is_end-event}
use Rattle.record_lines.proofs.Needs.{needs-line}
use Rattle.record_lines.proofs.Progress.{IsPast, line_gives}

module _ (at : ℕ) (old : ReaderState) (event : Event) (lines : old.stage ≡ Lines) (none : old.line ≡ []) (found : IsCommon old.pending (event, at)) where
  says : event_of (old.line ++ take at old.pending) ≡ Some event
  says = ap (λ l. event_of (l ++ take at old.pending)) none ∙ found.event

  pub common-gives : (new : ReaderState) → IsPast at old new → new.stage ≡ Lines → Gives old new (Ok event)
  common-gives new past after =
      let fits : length old.line + at ≤ 32 = omega (arith, ap length none, found.few) in
      line_gives at old new event found.feed fits says past lines after found.other

  pub common-whole : reads_next old ≡ false
  common-whole = needs-line old lines at found.feed (is_end-event (old.line ++ take at old.pending) event says ∙ found.other)
