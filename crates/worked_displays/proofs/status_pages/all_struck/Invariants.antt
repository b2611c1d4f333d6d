use Rattle.std.proofs.Common.{◌≡◌}
use Rattle.book_model.specs.Sealed.{the_book}
use Rattle.system_display.specs.Selecting.{SelectorFits}
use Rattle.worked_displays.proofs.status_pages.all_struck.Given as goal

abbrev pub invariant-loop-row : goal.invariant-loop-row
invariant-loop-row g l = record {
  fits : SelectorFits (the_book l.book) l.selector;
  moments : l.selector.moments ≡ l.row-counter;
}
