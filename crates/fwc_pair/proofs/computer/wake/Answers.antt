use Rattle.book_model.specs.Sealed.{the_book}
use Rattle.fwc_pair.proofs.computer.wake.Goals as goal

pub returns-then-other_up-clause-goes_on : goal.returns-then-other_up-clause-goes_on
returns-then-other_up-clause-goes_on c = λ e own others some. c.copy_from.ensures.stands (the_book c.args.book.now) e c.requires.lane (others c.if-other_up.true)

pub returns-else-other_up-clause-begins : goal.returns-else-other_up-clause-begins
returns-else-other_up-clause-begins c = λ f none. c.cold.ensures.stands f

pub returns-then-other_up-clause-fits : goal.returns-then-other_up-clause-fits
returns-then-other_up-clause-fits c = c.copy_from.ensures.fits (the_book c.args.book.now) c.requires.lane c.requires.other
