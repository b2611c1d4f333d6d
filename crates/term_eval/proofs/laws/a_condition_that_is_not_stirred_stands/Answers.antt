use Rattle.term_eval.proofs.Unstirred.{unstirred-truth, unstirred-nodes, unstirred-cells, unstirred-due}
use Rattle.term_eval.proofs.laws.a_condition_that_is_not_stirred_stands.Goals as goal

pub returns-clause-truth : goal.returns-clause-truth
returns-clause-truth c = unstirred-truth

pub returns-clause-nodes : goal.returns-clause-nodes
returns-clause-nodes c = unstirred-nodes

pub returns-clause-cells : goal.returns-clause-cells
returns-clause-cells c w h d at first n cells small short waits later = unstirred-cells w h d at first n small short waits later cells

pub returns-clause-due : goal.returns-clause-due
returns-clause-due c = unstirred-due
