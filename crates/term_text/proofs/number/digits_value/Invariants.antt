use Rattle.std.proofs.Common.{◌≡◌, min, take}
use Rattle.ecam_spec.specs.TermNumber.{digits_value}
use Rattle.term_text.proofs.number.digits_value.Given as goal

abbrev pub invariant-loop-digit : goal.invariant-loop-digit
invariant-loop-digit l = l.value ≡ min (digits_value (take l.digit-index l.digits)) 18446744073709551615
