use Rattle.std.proofs.Common.{◌≡◌, ◌+◌}
use Rattle.book_model.specs.Sealed.{the_book}
use Rattle.system_display.specs.Selecting.{SelectorFits}
use Rattle.worked_displays.proofs.keys.go_on.Given as goal

abbrev pub invariant-loop-i : goal.invariant-loop-i
invariant-loop-i l = (l.selector.moments ≡ l.initial.selector.moments + l.i) × SelectorFits (the_book l.book) l.selector
