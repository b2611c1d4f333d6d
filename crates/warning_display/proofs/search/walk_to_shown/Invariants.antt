use Rattle.std.proofs.Common.{◌≡◌, take, filter}
use Rattle.book_model.specs.Told.{flagged}
use Rattle.warning_display.proofs.search.walk_to_shown.Given as goal

abbrev pub invariant-loop-i : goal.invariant-loop-i
invariant-loop-i l = filter (flagged l.shown) (take l.i l.order) ≡ filter (flagged l.shown) (take l.from l.order)
