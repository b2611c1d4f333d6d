use Rattle.std.proofs.Common.{◌≡◌, ◌≤◌, length, take}
use Rattle.std.specs.Prelude.{filter}
use Rattle.advisories.specs.Watches.{is_told}
use Rattle.advisories.proofs.watches.count_told.Given as goal

abbrev pub invariant-loop-watch : goal.invariant-loop-watch
invariant-loop-watch l = record {
  count : l.count ≡ length (filter (is_told l.phase.number) (take l.watch-index l.watches));
  few : l.count ≤ l.watch-index;
}
