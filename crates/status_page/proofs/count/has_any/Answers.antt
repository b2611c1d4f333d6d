use Rattle.std.proofs.Common.{false, length, inl, inr, arith}
use Rattle.std.proofs.lemmas.Bool.{cases_lt}
use Rattle.std.proofs.lemmas.List.{get_or_past}
use Rattle.status_page.proofs.count.has_any.Goals as goal

pub returns : goal.returns
returns c = λ none i. elim (cases_lt i (length c.args.flags.now)) [
  | inl within ↦ c.loop-i.invariant none i (omega (arith, within, c.loop-i-test.false))
  | inr past ↦ get_or_past c.args.flags.now i false past
]
