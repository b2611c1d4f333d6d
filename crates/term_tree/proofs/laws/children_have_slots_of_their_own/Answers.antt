use Rattle.term_tree.proofs.Ranges.{children-LiesIn, children-EndsBefore}
use Rattle.term_tree.proofs.laws.children_have_slots_of_their_own.Goals as goal

pub returns : goal.returns
returns c = record { within = children-LiesIn; disjoint = children-EndsBefore }
