use Rattle.std.proofs.Common.{◌≡◌, ◌++◌, map, take, drop}
use Rattle.advisories.specs.Watches.{rested}
use Rattle.advisories.proofs.watches.rest.Given as goal

abbrev pub invariant-loop-i : goal.invariant-loop-i
invariant-loop-i l = l.watches ≡ map rested (take l.i l.fn.watches) ++ drop l.i l.fn.watches
