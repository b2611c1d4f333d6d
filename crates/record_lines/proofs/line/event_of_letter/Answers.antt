-- A letter alone is the end of a moment, or of the record.
use Rattle.std.proofs.Common.{sym, ap, ◌∙◌, ◌∷◌, [], arith}
use Rattle.ecam_spec.specs.RecordLine.{event_of}
use Rattle.record_lines.proofs.Forms.{event_of-tick, event_of-end, event_of-letter}
use Rattle.record_lines.proofs.line.event_of_letter.Goals as goal

pub returns-in-84 : goal.returns-in-84
returns-in-84 c = sym (ap (λ l. event_of (l ∷ [])) c.in-84.is ∙ event_of-tick)

pub returns-in-69 : goal.returns-in-69
returns-in-69 c = sym (ap (λ l. event_of (l ∷ [])) c.in-69.is ∙ event_of-end)

pub returns-in_default : goal.returns-in_default
returns-in_default c = sym (event_of-letter c.args.letter (λ h. omega arith) (λ h. omega arith))
