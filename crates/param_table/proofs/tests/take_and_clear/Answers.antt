use Rattle.book_model.specs.Sealed.{the_book}
use Rattle.param_table.proofs.tests.take_and_clear.Goals as goal

pub value-requires-2-clause-fits : goal.value-requires-2-clause-fits
value-requires-2-clause-fits g c =
    c.clear.ensures.fits (the_book c.args.book.now) c.take.ensures.fits
