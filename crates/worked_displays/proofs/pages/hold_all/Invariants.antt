use Rattle.std.proofs.Common.{◌≡◌}
use Rattle.book_model.specs.Sealed.{the_book}
use Rattle.system_display.specs.Selecting.{SelectorFits}
use Rattle.worked_displays.proofs.pages.hold_all.Given as goal

abbrev pub invariant-loop-moment : goal.invariant-loop-moment
invariant-loop-moment g l = record {
  fits : SelectorFits (the_book l.book) l.selector;
  moments : l.selector.moments ≡ l.moment;
}
