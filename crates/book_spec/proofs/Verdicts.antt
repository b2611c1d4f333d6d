-- The verdict is what the rule says, and nothing else is.
use Rattle.std.proofs.Common.{◌≡◌}
use Rattle.ecam_spec.specs.Book.{Text}
use Rattle.ecam_spec.specs.TermText.{TermNames, Outcome}
use Rattle.ecam_spec.specs.TermVerdict.{IsVerdict}
use Rattle.ecam_spec.proofs.TermVerdict.{some_verdict, one_verdict}
use Rattle.book_spec.specs.Verdict.{verdict}

module _ (names : TermNames) (text : Text) where
  pub verdict_told : IsVerdict names text (verdict names text)
  unfolding verdict
  verdict_told = (some_verdict names text).1

  pub verdict_only : (outcome : Outcome) → IsVerdict names text outcome → verdict names text ≡ outcome
  verdict_only outcome is = one_verdict names text (verdict names text) outcome verdict_told is
