use Rattle.term_eval.proofs.Later.{rests_holds, rests_stands, rests_due}
use Rattle.term_eval.proofs.laws.a_condition_at_rest_keeps_its_truth.Goals as goal

pub returns-clause-truth : goal.returns-clause-truth
returns-clause-truth c = rests_holds

pub returns-clause-stands : goal.returns-clause-stands
returns-clause-stands c = rests_stands

pub returns-clause-due : goal.returns-clause-due
returns-clause-due c = rests_due
