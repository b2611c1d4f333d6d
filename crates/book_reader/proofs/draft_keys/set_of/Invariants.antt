use Rattle.std.proofs.Common.{◌≡◌, map, take}
use Rattle.toml.specs.View.{view}
use Rattle.book_reader.specs.Drafting.{set_of}
use Rattle.book_reader.proofs.draft_keys.set_of.Given as goal

abbrev pub invariant-loop-value : goal.invariant-loop-value
invariant-loop-value l = l.set.0 ≡ set_of (map view (take l.value-index l.values))
