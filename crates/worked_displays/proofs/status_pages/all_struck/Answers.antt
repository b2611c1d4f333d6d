use Rattle.book_model.specs.Sealed.{the_book}
use Rattle.worked_displays.proofs.status_pages.all_struck.Goals as goal

pub loop-row-init : goal.loop-row-init
loop-row-init g c = record {
  fits = c.new-selector.ensures.fits (the_book c.args.book.now);
  moments = c.new-selector.ensures.moments;
}
