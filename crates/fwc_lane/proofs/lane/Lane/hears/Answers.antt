use Rattle.book_model.specs.Sealed.{the_book}
use Rattle.fwc_lane.proofs.Lanes.{word-lane}
use Rattle.fwc_lane.proofs.lane.Lane.hears.Goals as goal

pub returns : goal.returns
returns c = λ off l e stands.
    word-lane (the_book c.args.book.now) e c.args.bus c.args.bits l l.params stands stands.fits.params (c.listens.ensures off l.params)
