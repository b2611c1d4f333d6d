use Rattle.std.proofs.Common.{◌≡◌, drop}
use Rattle.std.specs.Prelude.{filter}
use Rattle.advisories.specs.Watches.{is_told}
use Rattle.advisories.proofs.watches.first_told.Given as goal

abbrev pub invariant-loop-watch : goal.invariant-loop-watch
invariant-loop-watch l = filter (is_told l.phase.number) l.watches ≡ filter (is_told l.phase.number) (drop l.watch-index l.watches)
