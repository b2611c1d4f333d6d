use Rattle.std.proofs.Common.{◌≤◌, arith}
use Rattle.book_model.specs.Sealed.{the_book}
use Rattle.worked_displays.proofs.keys.right_rows.Goals as goal

pub loop-row-init : goal.loop-row-init
loop-row-init c = (omega (arith, c.new-selector.ensures.moments), c.new-selector.ensures.fits (the_book c.args.book.now))
