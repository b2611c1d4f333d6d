use Rattle.book_model.specs.Sealed.{the_book}
use Rattle.book_model.proofs.ConditionRanges.{ranges-within, ranges-apart}
use Rattle.book_model.proofs.laws.conditions_have_slots_of_their_own.Goals as goal

pub returns-clause-within : goal.returns-clause-within
returns-clause-within c d sealed = rw sealed.placed (ranges-within (the_book d))

pub returns-clause-disjoint : goal.returns-clause-disjoint
returns-clause-disjoint c d sealed = rw sealed.placed (ranges-apart (the_book d))
