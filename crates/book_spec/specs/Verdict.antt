-- The verdict on a condition's text: the outcome that the rule gives it. That each text has one, and no other, is a law
-- of the definitions; how it can be computed is a matter of that proof.
use Rattle.ecam_spec.specs.Book.{Text}
use Rattle.ecam_spec.specs.TermText.{TermNames, Outcome}
use Rattle.ecam_spec.proofs.TermVerdict.{some_verdict}

unfoldable pub verdict : TermNames → Text → Outcome
verdict names text = (some_verdict names text).0
