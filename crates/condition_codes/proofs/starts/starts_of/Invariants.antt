use Rattle.std.proofs.Common.{◌≡◌, take}
use Rattle.condition_codes.specs.IsCodes.{node_starts, owner_starts, slot_starts}
use Rattle.condition_codes.proofs.starts.starts_of.Given as goal

abbrev pub invariant-loop-number : goal.invariant-loop-number
invariant-loop-number l = record {
  nodes : node_starts l.starts.items ≡ take l.number l.nodes;
  owners : owner_starts l.starts.items ≡ take l.number l.owners;
  slots : slot_starts l.starts.items ≡ take l.number l.slots;
}
