use Rattle.term_text.proofs.WritableTrees.{writable, readable_writable}
use Rattle.term_text.proofs.laws.readable_conditions.Goals as goal

pub returns-clause-only : goal.returns-clause-only
returns-clause-only c names tree terms from = writable names terms tree from

pub returns-clause-all : goal.returns-clause-all
returns-clause-all c names tree keeps = readable_writable names tree keeps
