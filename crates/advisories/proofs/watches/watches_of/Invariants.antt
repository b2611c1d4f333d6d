use Rattle.std.proofs.Common.{◌≡◌, map, take}
use Rattle.advisories.specs.View.{list_of}
use Rattle.advisories.specs.Watches.{all_watched, rested}
use Rattle.advisories.proofs.watches.watches_of.Given as goal

abbrev pub invariant-loop-advisory : goal.invariant-loop-advisory
invariant-loop-advisory l = record {
  advisories : all_watched l.watches.items ≡ list_of (take l.advisory-index l.list);
  rest : map rested l.watches.items ≡ l.watches.items;
}
