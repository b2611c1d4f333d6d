use Rattle.book_model.specs.Sealed.{the_book}
use Rattle.param_table.proofs.tests.take_over.Goals as goal

pub value-requires-clause-fits : goal.value-requires-clause-fits
value-requires-clause-fits g c =
    c.copy_from.ensures.fits (the_book c.args.book.now) c.requires.other c.take-2.ensures.fits
