use Rattle.ecam_spec.proofs.TermNames.{holds-below}
use Rattle.term_eval.proofs.laws.what_is_named_decides.Goals as goal

pub returns : goal.returns
returns c = holds-below
