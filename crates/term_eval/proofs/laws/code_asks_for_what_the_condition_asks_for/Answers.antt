use Rattle.term_eval.proofs.Codes.{code-asks}
use Rattle.term_eval.proofs.laws.code_asks_for_what_the_condition_asks_for.Goals as goal

pub returns : goal.returns
returns c = code-asks
