use Rattle.book_model.specs.Sealed.{the_book}
use Rattle.worked_displays.proofs.pages.hold_all.Goals as goal

pub loop-moment-init : goal.loop-moment-init
loop-moment-init g c = record {
  fits = c.new-selector.ensures.fits (the_book c.args.book.now);
  moments = c.new-selector.ensures.moments;
}
