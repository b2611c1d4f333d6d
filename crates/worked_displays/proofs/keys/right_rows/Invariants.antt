use Rattle.std.proofs.Common.{◌≤◌, ◌*◌}
use Rattle.book_model.specs.Sealed.{the_book}
use Rattle.system_display.specs.Selecting.{SelectorFits}
use Rattle.worked_displays.proofs.keys.right_rows.Given as goal

abbrev pub invariant-loop-row : goal.invariant-loop-row
invariant-loop-row l = (l.selector.moments ≤ l.row * 256) × SelectorFits (the_book l.book) l.selector
