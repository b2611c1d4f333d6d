use Rattle.book_model.specs.Sealed.{the_book}
use Rattle.replay_core.proofs.advise.set_up.Goals as goal

pub returns-clause-begins : goal.returns-clause-begins
returns-clause-begins c = c.in_ok-view.ensures.stands (the_book c.args.book)
