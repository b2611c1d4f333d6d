use Rattle.book_model.specs.Sealed.{the_book}
use Rattle.fwc_lane.proofs.Lanes.{fits-with, idle-with, word-lane}
use Rattle.fwc_lane.proofs.lane.Lane.word.Goals as goal

pub returns-clause-fits : goal.returns-clause-fits
returns-clause-fits c =
    let old = c.args.self.now in
    fits-with (the_book c.args.book.now) old c.take.new.self old.keys old.idle c.requires c.take.ensures.fits (λ on. idle-with old c.take.new.self (c.requires.idle on))

pub returns-clause-stands : goal.returns-clause-stands
returns-clause-stands c = λ e stands.
    word-lane (the_book c.args.book.now) e c.args.bus c.args.bits c.args.self.now c.take.new.self stands c.take.ensures.fits c.take.ensures.stands
