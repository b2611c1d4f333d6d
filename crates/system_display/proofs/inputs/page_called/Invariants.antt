use Rattle.std.proofs.Common.{◌≡◌, None}
use Rattle.system_display.specs.Panels.{page_pressed}
use Rattle.system_display.proofs.inputs.page_called.Given as goal

abbrev pub invariant-loop-i : goal.invariant-loop-i
invariant-loop-i l = page_pressed l.keys l.i ≡ None
